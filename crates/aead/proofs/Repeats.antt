-- If the write reading repeats the verify reading, the bytes that may be written repeat the text.
use Rattle.std.proofs.Common.{◌≡◌, ℕ, zero, suc, List, [], ◌∷◌, ◌≤◌, ◌<◌, ◌+◌, ◌-◌, length, take, get_or, ap}
use Rattle.std.proofs.Common.{ap₂, ◌∙◌, sym, arith, bit_xor}
use Rattle.std.proofs.lemmas.List.{get_or-take, length-take, take-append-drop, length-drop}
use Rattle.octets.specs.Masked.{masked}
use Rattle.aead.specs.Suites.{text_limit}
use Rattle.aead.specs.Sealing.{Setting, Opened, mask_of}
use Rattle.aead.specs.Measure.{last_16}
use Rattle.aead.specs.Verdict.{ShownRepeatsTheText}
use Rattle.aead.proofs.OneText.{length-sealing}
use Rattle.aead.proofs.Opens.{sealed_only_if}
use Rattle.aead.proofs.StreamExits.{shown_is}

-- item i of a masked list is item i of the list, XORed with its byte of the mask
get_or-masked : (f : ℕ → ℕ) (at : ℕ) (xs : List ℕ) (i : ℕ) → i < length xs
    → get_or (masked f at xs) i 0 ≡ bit_xor (get_or xs i 0) (f (at + i))
unfolding masked
get_or-masked f at [] i h = absurd (omega arith)
get_or-masked f at (x ∷ xs) zero h = ap (λ n. bit_xor x (f n)) (omega arith)
get_or-masked f at (x ∷ xs) (suc i) h =
    let less : i < length xs = omega arith in
    get_or-masked f (suc at) xs i less ∙ ap (λ n. bit_xor (get_or xs i 0) (f n)) (omega arith)

-- the text of a sealing is its body, decrypted under its last 16 bytes
text_of : (s : Setting) (v text : List ℕ) → Opened s v text
    → text ≡ masked (mask_of s (last_16 v)) 0 (take (length v - 16) v)
text_of s v text o =
    let n : ℕ = length v - 16 in
    let size : length v ≡ length text + 16 = ap length o.is ∙ length-sealing s text in
    let long : length (last_16 v) ≡ 16 = omega (arith, size, length-drop n v) in
    (sealed_only_if s (take n v) (last_16 v) text long (take-append-drop n v ∙ o.is)).1

pub repeats : ShownRepeatsTheText
repeats s m v w text i agrees o below here same =
    let n : ℕ = length m - 16 in
    let size : length v ≡ length text + 16 = ap length o.is ∙ length-sealing s text in
    let fits : length m ≤ text_limit s.suite + 16 = omega (arith, agrees.0, size, o.fits.text_fits) in
    let in_w : i < length (take n w) = omega (arith, below, here, length-take n w) in
    let in_v : i < length (take n v) = omega (arith, below, agrees.0, length-take n v) in
    let bytes : get_or (take n w) i 0 ≡ get_or (take n v) i 0 =
    get_or-take n w i 0 below ∙ same ∙ sym (get_or-take n v i 0 below) in
    ap (λ l. get_or l i 0) (shown_is s m w fits)
    ∙ get_or-masked (mask_of s (last_16 m)) 0 (take n w) i in_w
    ∙ ap (λ b. bit_xor b (mask_of s (last_16 m) (0 + i))) bytes
    ∙ sym (get_or-masked (mask_of s (last_16 m)) 0 (take n v) i in_v)
    ∙ sym (ap (λ l. get_or l i 0)
    (text_of s v text o ∙ ap₂ (λ t k. masked (mask_of s t) 0 (take (k - 16) v)) agrees.1 agrees.0))
