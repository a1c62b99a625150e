use Rattle.std.proofs.Common.{◌≡◌, ℕ, ◌+◌, ◌*◌, ◌<◌, get_or, arith, rules}
use Rattle.aes.specs.Schedule.{schedule, rcon, word, round_count}
use Rattle.aes.proofs.Permutation.{rcon_is_word}
use Rattle.aes.proofs.MadeKeys.{has_words, begun_first, begun_more, begun_last, begun_at, round_constant}
use Rattle.aes.proofs.MadeKeys.{rotated, rotated_temp, rotated_temp_small, rotated_small, halfway_temp}
use Rattle.aes.proofs.MadeKeys.{halfway_temp_small, no_constant, follows256, follows256_rest, rotated_lanes}
use Rattle.aes.proofs.MadeKeys.{last_lanes, key_words_held, first_key, same_words}
use Rattle.aes.proofs.schedule.expand256.Goals as goal

pub loop-r-init : goal.loop-r-init
loop-r-init c =
    let key = c.args.key.now in
    let ws = schedule key in
    let small : (i : ℕ) → get_or key i 0 < 256 = search rules in
    let has = has_words key 8 c.requires small in
    let bytes = c.sixteen-bytes.result in
    let second = key_words_held 4 key c.to_basis-second.result c.sixteen.result 8 4 has (omega arith) (omega arith)
    (λ i l. c.sixteen.ensures i l) c.to_basis-second.ensures.each in
    record {
      keys = begun_more _ key c.ready.result 1
          (begun_first key bytes (search rules) (first_key key bytes 8 has (omega arith) c.sixteen-bytes.ensures))
          (omega arith) (omega arith) (search rules) (c.ready.ensures ws 1 second);
      first = key_words_held 4 key _ bytes 8 0 has (omega arith) (omega arith)
          (λ i l. c.sixteen-bytes.ensures i l) c.to_basis-first.ensures.each;
      second = second;
    }

pub loop-r-preserved : goal.loop-r-preserved
loop-r-preserved c =
    let key = c.args.key.now in
    let ws = schedule key in
    let small : (i : ℕ) → get_or key i 0 < 256 = search rules in
    let has = has_words key 8 c.requires small in
    let r = c.loop-r.r in
    let first = c.loop-r.invariant.first in
    let second = c.loop-r.invariant.second in
    let next = c.follow-next.ensures 4 ws (8 * r) (8 * r + 8) (rotated_temp key (8 * r + 7) (r + 1)) (omega arith) has.bytes
    (λ q. rotated_temp_small key 8 (8 * r + 7) (r + 1) q has) first
    (c.sub_word.ensures (rotated key (8 * r + 7)) (λ q. get_or (rcon (r + 1)) q 0)
    (λ q. rotated_small key 8 (8 * r + 7) q has) (λ q. rcon_is_word (r + 1) q)
    (rotated_lanes key c.rotated_last.result c.loop-r.second (8 * r + 4) (8 * r + 7) second (omega arith) c.rotated_last.ensures)
    (λ i l. round_constant (r) i (omega arith) l))
    (follows256 key (r) (8 * r) (8 * r + 8) (8 * r + 7) has (omega arith) (omega arith) (omega arith) (omega arith)) in
    let k : ℕ = 8 * r + 11 in
    let after = c.follow-after.ensures 4 ws (8 * r + 4) (8 * r + 12) (halfway_temp key k) (omega arith) has.bytes
    (λ q. halfway_temp_small key 8 k q has) second
    (c.sub_word-in-loop-r.ensures (λ q. get_or (word key k) q 0) (λ q. 0) (λ q. has.bytes k q) (λ q. omega arith)
    (last_lanes key c.last_word.result c.follow-next.result (8 * r + 8) k next (omega arith) c.last_word.ensures)
    no_constant)
    (follows256_rest key r (8 * r + 4) (8 * r + 12) k has (omega arith) (omega arith) (omega arith) (omega arith)) in
    let one = begun_more c.loop-r.keys key c.ready-in-loop-r.result (2 * r + 2) c.loop-r.invariant.keys (omega arith)
    (omega arith) (search rules) (c.ready-in-loop-r.ensures ws (2 * r + 2)
    (same_words c.follow-next.result ws (8 * r + 8) (4 * (2 * r + 2)) (omega arith) next)) in
    let both = begun_more _ key c.ready-in-loop-r-2.result (2 * r + 3)
    (begun_at _ key (2 * r + 2 + 1) (2 * r + 3) (omega arith) one) (omega arith) (omega arith) (search rules)
    (c.ready-in-loop-r-2.ensures ws (2 * r + 3)
    (same_words c.follow-after.result ws (8 * r + 12) (4 * (2 * r + 3)) (omega arith) after)) in
    record {
      keys = begun_at _ key (2 * r + 3 + 1) (2 * (r + 1) + 2) (omega arith) both;
      first = same_words c.follow-next.result ws (8 * r + 8) (8 * (r + 1)) (omega arith) next;
      second = same_words c.follow-after.result ws (8 * r + 12) (8 * (r + 1) + 4) (omega arith) after;
    }

pub returns : goal.returns
returns c =
    let key = c.args.key.now in
    let ws = schedule key in
    let small : (i : ℕ) → get_or key i 0 < 256 = search rules in
    let has = has_words key 8 c.requires small in
    let r = c.loop-r.r in
    let count : 14 ≡ round_count key = omega arith in
    let first = same_words c.loop-r.first ws (8 * r) 48 (omega arith) c.loop-r.invariant.first in
    let second = same_words c.loop-r.second ws (8 * r + 4) 52 (omega arith) c.loop-r.invariant.second in
    let last = c.follow.ensures 4 ws (48) (56) (rotated_temp key (55) (6 + 1)) (omega arith) has.bytes
    (λ q. rotated_temp_small key 8 (55) (6 + 1) q has) first
    (c.sub_word-2.ensures (rotated key (55)) (λ q. get_or (rcon (6 + 1)) q 0)
    (λ q. rotated_small key 8 (55) q has) (λ q. rcon_is_word (6 + 1) q)
    (rotated_lanes key c.rotated_last-2.result c.loop-r.second (52) (55) second (omega arith) c.rotated_last-2.ensures)
    (λ i l. round_constant (6) i (omega arith) l))
    (follows256 key (6) (48) (56) (55) has (omega arith) (omega arith) (omega arith) (omega arith)) in
    begun_last c.loop-r.keys key c.ready_last.result 14
    (begun_at c.loop-r.keys key (2 * r + 2) 14 (omega arith) c.loop-r.invariant.keys) count (omega arith) (search rules)
    (c.ready_last.ensures ws 14 has.bytes last)
