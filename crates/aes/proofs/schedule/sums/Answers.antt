use Rattle.std.proofs.Common.{ℕ, List, ◌++◌, map, get_or, replicate, refl, arith, bit_xor}
use lib.Lanes.{zip2}
use Rattle.aes.specs.declared.schedule.TheConstants.{ONE_WORD_BACK, TWO_WORDS_BACK}
use Rattle.aes.proofs.Schedules.{moved, none, sum_lane, sum_long, sums_made}
use Rattle.aes.proofs.schedule.sums.Goals as goal

pub returns : goal.returns
returns c =
    let x : List ℕ = c.args.words in
    let one : List ℕ = map (λ p. get_or (replicate 16 0 ++ x) p 0) ONE_WORD_BACK in
    let pairs : List ℕ = zip2 bit_xor x one in
    let two : List ℕ = map (λ p. get_or (replicate 16 0 ++ pairs) p 0) TWO_WORDS_BACK in
    let long = sum_long x one c.fits-words.0 refl in
    sums_made x one pairs two (zip2 bit_xor pairs two)
    (λ r l. none x ONE_WORD_BACK 4 r refl (omega arith) l refl)
    (λ i l. moved x ONE_WORD_BACK 4 i c.fits-words.0 refl l refl)
    (λ i l. none pairs TWO_WORDS_BACK 8 i refl (omega arith) l refl)
    (λ i l. moved pairs TWO_WORDS_BACK 8 i long refl l refl)
    (λ i l. sum_lane x one i c.fits-words.0 refl l)
    (λ i l. sum_lane pairs two i long refl l)
