use Rattle.std.proofs.Common.{◌≡◌, ℕ, ◌+◌, ◌*◌, ◌<◌, get_or, arith, rules}
use Rattle.aes.specs.Schedule.{schedule, rcon, word, round_count}
use Rattle.aes.proofs.Permutation.{rcon_is_word}
use Rattle.aes.proofs.MadeKeys.{has_words, begun_first, begun_more, begun_last, begun_at, round_constant}
use Rattle.aes.proofs.MadeKeys.{rotated, rotated_temp, rotated_temp_small, rotated_small, follows192}
use Rattle.aes.proofs.MadeKeys.{follows192_rest, rotated_second_lanes, last_lanes, key_words_held, first_key}
use Rattle.aes.proofs.MadeKeys.{same_words}
use Rattle.aes.proofs.schedule.expand192.Goals as goal

pub loop-r-init : goal.loop-r-init
loop-r-init c =
    let key = c.args.key.now in
    let small : (i : ℕ) → get_or key i 0 < 256 = search rules in
    let has = has_words key 6 c.requires small in
    let bytes = c.sixteen-bytes.result in
    record {
      keys = begun_first key bytes (search rules) (first_key key bytes 6 has (omega arith) c.sixteen-bytes.ensures);
      four = key_words_held 4 key _ bytes 6 0 has (omega arith) (omega arith)
          (λ i l. c.sixteen-bytes.ensures i l) c.to_basis-four.ensures.each;
      two = key_words_held 2 key _ c.eight.result 6 4 has (omega arith) (omega arith)
          (λ i l. c.eight.ensures i l) c.to_basis-two.ensures.each;
    }

pub loop-r-preserved : goal.loop-r-preserved
loop-r-preserved c =
    let key = c.args.key.now in
    let ws = schedule key in
    let small : (i : ℕ) → get_or key i 0 < 256 = search rules in
    let has = has_words key 6 c.requires small in
    let r = c.loop-r.r in
    let four = c.loop-r.invariant.four in
    let two = c.loop-r.invariant.two in
    let next_four = c.follow-next_four.ensures 4 ws (12 * r) (12 * r + 6) (rotated_temp key (12 * r + 5) (2 * r + 1)) (omega arith) has.bytes
    (λ q. rotated_temp_small key 6 (12 * r + 5) (2 * r + 1) q has) four
    (c.sub_word.ensures (rotated key (12 * r + 5)) (λ q. get_or (rcon (2 * r + 1)) q 0)
    (λ q. rotated_small key 6 (12 * r + 5) q has) (λ q. rcon_is_word (2 * r + 1) q)
    (rotated_second_lanes key c.rotated_second.result c.loop-r.two (12 * r + 4) (12 * r + 5) two (omega arith) c.rotated_second.ensures)
    (λ i l. round_constant (2 * r) i (omega arith) l))
    (follows192 key (2 * r) (12 * r) (12 * r + 6) (12 * r + 5) has (omega arith) (omega arith) (omega arith) (omega arith)) in
    let next_two = c.follow-next_two.ensures 2 ws (12 * r + 4) (12 * r + 10) (λ q. get_or (word key (12 * r + 9)) q 0) (omega arith) has.bytes
    (λ q. has.bytes (12 * r + 9) q) two
    (last_lanes key c.last_word.result c.follow-next_four.result (12 * r + 6) (12 * r + 9) next_four (omega arith) c.last_word.ensures)
    (follows192_rest key (2 * r) (12 * r + 4) (12 * r + 10) (12 * r + 9) has (omega arith) (omega arith) (omega arith) (omega arith)) in
    let after_four = c.follow-four.ensures 4 ws (12 * r + 6) (12 * r + 12) (rotated_temp key (12 * r + 11) (2 * r + 1 + 1)) (omega arith) has.bytes
    (λ q. rotated_temp_small key 6 (12 * r + 11) (2 * r + 1 + 1) q has) next_four
    (c.sub_word-in-loop-r.ensures (rotated key (12 * r + 11)) (λ q. get_or (rcon (2 * r + 1 + 1)) q 0)
    (λ q. rotated_small key 6 (12 * r + 11) q has) (λ q. rcon_is_word (2 * r + 1 + 1) q)
    (rotated_second_lanes key c.rotated_second-in-loop-r.result c.follow-next_two.result (12 * r + 10) (12 * r + 11) next_two
    (omega arith) c.rotated_second-in-loop-r.ensures)
    (λ i l. round_constant (2 * r + 1) i (omega arith) l))
    (follows192 key (2 * r + 1) (12 * r + 6) (12 * r + 12) (12 * r + 11) has (omega arith) (omega arith) (omega arith) (omega arith)) in
    let after_two = c.follow-two.ensures 2 ws (12 * r + 10) (12 * r + 16) (λ q. get_or (word key (12 * r + 15)) q 0) (omega arith) has.bytes
    (λ q. has.bytes (12 * r + 15) q) next_two
    (last_lanes key c.last_word-in-loop-r.result c.follow-four.result (12 * r + 12) (12 * r + 15) after_four (omega arith) c.last_word-in-loop-r.ensures)
    (follows192_rest key (2 * r + 1) (12 * r + 10) (12 * r + 16) (12 * r + 15) has (omega arith) (omega arith) (omega arith) (omega arith)) in
    let joined = same_words c.join_first.result ws (12 * r + 4) (4 * (3 * r + 1)) (omega arith)
    (c.join_first.ensures ws (12 * r + 4) two
    (same_words c.follow-next_four.result ws (12 * r + 6) (12 * r + 4 + 2) (omega arith) next_four)) in
    let joined_last = same_words c.join_last.result ws (12 * r + 6 + 2) (4 * (3 * r + 2)) (omega arith)
    (c.join_last.ensures ws (12 * r + 6) next_four
    (same_words c.follow-next_two.result ws (12 * r + 10) (12 * r + 6 + 4) (omega arith) next_two)) in
    let third = same_words c.follow-four.result ws (12 * r + 12) (4 * (3 * r + 3)) (omega arith) after_four in
    let one = begun_more c.loop-r.keys key c.ready.result (3 * r + 1) c.loop-r.invariant.keys (omega arith) (omega arith)
    (search rules) (c.ready.ensures ws (3 * r + 1) joined) in
    let more = begun_more _ key c.ready-in-loop-r.result (3 * r + 2) (begun_at _ key (3 * r + 1 + 1) (3 * r + 2) (omega arith) one)
    (omega arith) (omega arith) (search rules) (c.ready-in-loop-r.ensures ws (3 * r + 2) joined_last) in
    let all = begun_more _ key c.ready-in-loop-r-2.result (3 * r + 3) (begun_at _ key (3 * r + 2 + 1) (3 * r + 3) (omega arith) more)
    (omega arith) (omega arith) (search rules) (c.ready-in-loop-r-2.ensures ws (3 * r + 3) third) in
    record {
      keys = begun_at _ key (3 * r + 3 + 1) (3 * (r + 1) + 1) (omega arith) all;
      four = same_words c.follow-four.result ws (12 * r + 12) (12 * (r + 1)) (omega arith) after_four;
      two = same_words c.follow-two.result ws (12 * r + 16) (12 * (r + 1) + 4) (omega arith) after_two;
    }

pub returns : goal.returns
returns c =
    let key = c.args.key.now in
    let ws = schedule key in
    let small : (i : ℕ) → get_or key i 0 < 256 = search rules in
    let has = has_words key 6 c.requires small in
    let r = c.loop-r.r in
    let count : 12 ≡ round_count key = omega arith in
    let four = same_words c.loop-r.four ws (12 * r) 36 (omega arith) c.loop-r.invariant.four in
    let two = same_words c.loop-r.two ws (12 * r + 4) 40 (omega arith) c.loop-r.invariant.two in
    let next_four = c.follow-next_four-2.ensures 4 ws (36) (42) (rotated_temp key (41) (6 + 1)) (omega arith) has.bytes
    (λ q. rotated_temp_small key 6 (41) (6 + 1) q has) four
    (c.sub_word-2.ensures (rotated key (41)) (λ q. get_or (rcon (6 + 1)) q 0)
    (λ q. rotated_small key 6 (41) q has) (λ q. rcon_is_word (6 + 1) q)
    (rotated_second_lanes key c.rotated_second-2.result c.loop-r.two (40) (41) two (omega arith) c.rotated_second-2.ensures)
    (λ i l. round_constant (6) i (omega arith) l))
    (follows192 key (6) (36) (42) (41) has (omega arith) (omega arith) (omega arith) (omega arith)) in
    let next_two = c.follow-next_two-2.ensures 2 ws (40) (46) (λ q. get_or (word key (45)) q 0) (omega arith) has.bytes
    (λ q. has.bytes (45) q) two
    (last_lanes key c.last_word-2.result c.follow-next_four-2.result (42) (45) next_four (omega arith) c.last_word-2.ensures)
    (follows192_rest key (6) (40) (46) (45) has (omega arith) (omega arith) (omega arith) (omega arith)) in
    let last = c.follow.ensures 4 ws (42) (48) (rotated_temp key (47) (7 + 1)) (omega arith) has.bytes
    (λ q. rotated_temp_small key 6 (47) (7 + 1) q has) next_four
    (c.sub_word-3.ensures (rotated key (47)) (λ q. get_or (rcon (7 + 1)) q 0)
    (λ q. rotated_small key 6 (47) q has) (λ q. rcon_is_word (7 + 1) q)
    (rotated_second_lanes key c.rotated_second-3.result c.follow-next_two-2.result (46) (47) next_two (omega arith) c.rotated_second-3.ensures)
    (λ i l. round_constant (7) i (omega arith) l))
    (follows192 key (7) (42) (48) (47) has (omega arith) (omega arith) (omega arith) (omega arith)) in
    let joined = c.join_first-2.ensures ws 40 two next_four in
    let joined_last = c.join_last-2.ensures ws 42 next_four next_two in
    let one = begun_more c.loop-r.keys key c.ready-2.result 10
    (begun_at c.loop-r.keys key (3 * r + 1) 10 (omega arith) c.loop-r.invariant.keys) (omega arith) (omega arith)
    (search rules) (c.ready-2.ensures ws 10 joined) in
    let more = begun_more _ key c.ready-3.result 11 one (omega arith) (omega arith) (search rules)
    (c.ready-3.ensures ws 11 joined_last) in
    begun_last _ key c.ready_last.result 12 more count (omega arith) (search rules)
    (c.ready_last.ensures ws 12 has.bytes last)
