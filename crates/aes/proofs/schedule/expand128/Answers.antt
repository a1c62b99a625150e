use Rattle.std.proofs.Common.{◌≡◌, ℕ, ◌+◌, ◌*◌, ◌<◌, get_or, refl, arith, rules}
use Rattle.aes.specs.Schedule.{schedule, rcon, round_count}
use Rattle.aes.proofs.Permutation.{rcon_is_word}
use Rattle.aes.proofs.MadeKeys.{has_words, begun_first, begun_more, begun_last, begun_at, round_constant}
use Rattle.aes.proofs.MadeKeys.{rotated, rotated_temp, rotated_temp_small, rotated_small, follows128}
use Rattle.aes.proofs.MadeKeys.{rotated_lanes, key_words_held, first_key, same_words}
use Rattle.aes.proofs.schedule.expand128.Goals as goal

pub loop-r-init : goal.loop-r-init
loop-r-init c =
    let key = c.args.key.now in
    let small : (i : ℕ) → get_or key i 0 < 256 = search rules in
    let has = has_words key 4 c.requires small in
    let bytes = c.sixteen-bytes.result in
    record {
      keys = begun_first key bytes (search rules) (first_key key bytes 4 has (omega arith) c.sixteen-bytes.ensures);
      words = key_words_held 4 key _ bytes 4 0 has (omega arith) (omega arith)
          (λ i l. c.sixteen-bytes.ensures i l) c.to_basis-words.ensures.each;
    }

pub loop-r-preserved : goal.loop-r-preserved
loop-r-preserved c =
    let key = c.args.key.now in
    let ws = schedule key in
    let small : (i : ℕ) → get_or key i 0 < 256 = search rules in
    let has = has_words key 4 c.requires small in
    let r = c.loop-r.r in
    let k : ℕ = 4 * r + 3 in
    let next = c.follow-next.ensures 4 ws (4 * r) (4 * (r + 1)) (rotated_temp key k (r + 1)) (omega arith) has.bytes
    (λ q. rotated_temp_small key 4 k (r + 1) q has) c.loop-r.invariant.words
    (c.sub_word.ensures (rotated key k) (λ q. get_or (rcon (r + 1)) q 0) (λ q. rotated_small key 4 k q has)
    (λ q. rcon_is_word (r + 1) q)
    (rotated_lanes key c.rotated_last.result c.loop-r.words (4 * r) k c.loop-r.invariant.words refl c.rotated_last.ensures)
    (λ i l. round_constant r i (omega arith) l)) (follows128 key r has (omega arith)) in
    record {
      keys = begun_more c.loop-r.keys key c.ready.result (r + 1) c.loop-r.invariant.keys (omega arith) (omega arith)
          (search rules) (c.ready.ensures ws (r + 1) next);
      words = next;
    }

pub returns : goal.returns
returns c =
    let key = c.args.key.now in
    let ws = schedule key in
    let small : (i : ℕ) → get_or key i 0 < 256 = search rules in
    let has = has_words key 4 c.requires small in
    let r = c.loop-r.r in
    let place : 4 * r ≡ 36 = omega arith in
    let count : 10 ≡ round_count key = omega arith in
    let held = same_words c.loop-r.words ws (4 * r) 36 place c.loop-r.invariant.words in
    let last = c.follow.ensures 4 ws 36 40 (rotated_temp key 39 10) (omega arith) has.bytes
    (λ q. rotated_temp_small key 4 39 10 q has) held
    (c.sub_word-2.ensures (rotated key 39) (λ q. get_or (rcon 10) q 0) (λ q. rotated_small key 4 39 q has)
    (λ q. rcon_is_word 10 q)
    (rotated_lanes key c.rotated_last-2.result c.loop-r.words 36 39 held refl c.rotated_last-2.ensures)
    (λ i l. round_constant 9 i (omega arith) l)) (follows128 key 9 has (omega arith)) in
    begun_last c.loop-r.keys key c.ready_last.result 10
    (begun_at c.loop-r.keys key (r + 1) 10 (omega arith) c.loop-r.invariant.keys) count (omega arith) (search rules)
    (c.ready_last.ensures ws 10 has.bytes last)
