-- Pieces into which cuts divide a body.
use Rattle.std.proofs.Common.{◌≡◌, ℕ, suc, ◌+◌, ◌-◌, ◌<◌, ◌≤◌, Bool, false, cond, List, [], ◌∷◌, ◌++◌}
use Rattle.std.proofs.Common.{length, map, take, drop, get_or, refl, sym, ap, ap₂, ◌∙◌, subst, arith}
use Rattle.std.proofs.Common.{append_assoc, length-drop, drop-cons, take_all}
use Rattle.std.specs.Prelude.{nat_le}
use Rattle.std.specs.List.{concat}
use Rattle.std.proofs.lemmas.Bool.{le-leb}
use Rattle.std.proofs.lemmas.List.{append-nil, length-take-le, map-append, take-append-drop, drop_all}
use Rattle.std.proofs.Math.Seq.{take-add}
use Rattle.std.proofs.lemmas.List.Folds.{concat-append}
use Rattle.aead.specs.Sealing.{Setting, Opened}
use Rattle.aead.specs.Cuts.{Rise, piece_lengths, IsCutSealing}
use Rattle.aead.specs.Code.CutBytes.{AreCut}

-- the pieces of a body up to `place`, after the first i cuts were taken into account
pub record CutSoFar (body cuts : List ℕ) (i place : ℕ) (pieces : List (List ℕ)) : Type 0 where
  pub joined : concat pieces ≡ take place body
  pub lengths : map length pieces ++ piece_lengths (length body) place (drop i cuts)
      ≡ piece_lengths (length body) 0 cuts
  pub rising : Rise place (drop i cuts)
  pub within : place ≤ length body

-- before the first cut there are no pieces
pub starts : (body cuts : List ℕ) → Rise 0 cuts → CutSoFar body cuts 0 0 []
starts body cuts h = record { joined = refl; lengths = refl; rising = h; within = omega arith }

-- pieces and one more, joined, are the joined pieces followed by that one
joined_more : (pieces : List (List ℕ)) (piece : List ℕ)
    → concat (pieces ++ piece ∷ []) ≡ concat pieces ++ piece
joined_more pieces piece = concat-append pieces (piece ∷ []) ∙ ap (λ x. concat pieces ++ x) (append-nil piece)

-- a list up to a place and the items up to a later place are the list up to the later place
longer : (body : List ℕ) (a b : ℕ) → a ≤ b → take a body ++ take (b - a) (drop a body) ≡ take b body
longer body a b l =
    let sum : a + (b - a) ≡ b = omega arith in
    sym (take-add a (b - a) body) ∙ ap (λ n. take n body) sum

-- the cuts from cut i on are cut i and the cuts after it
cut_at : (cuts : List ℕ) (i : ℕ) → i < length cuts → drop i cuts ≡ get_or cuts i 0 ∷ drop (i + 1) cuts
cut_at cuts i l = let one : suc i ≡ i + 1 = omega arith in
    drop-cons cuts i 0 l ∙ ap (λ j. get_or cuts i 0 ∷ drop j cuts) one

-- a number is not at most a smaller one
no_more : (m n : ℕ) → n < m → nat_le m n ≡ false
no_more m n h = grind arith

-- the lengths of the pieces after a place; the bit says whether the next cut is within the body
abbrev by_fit : ℕ → ℕ → ℕ → List ℕ → Bool → List ℕ
by_fit n place c rest b = cond b ((c - place) ∷ piece_lengths n c rest) (piece_lengths n place rest)

-- if the next cut is within the body, one more piece ends there
pub taken : (body cuts : List ℕ) (i place : ℕ) (pieces : List (List ℕ)) → i < length cuts
    → get_or cuts i 0 ≤ length body → CutSoFar body cuts i place pieces
    → CutSoFar body cuts (i + 1) (get_or cuts i 0)
    (pieces ++ take (get_or cuts i 0 - place) (drop place body) ∷ [])
taken body cuts i place pieces l fits h =
    let n : ℕ = length body in
    let c : ℕ = get_or cuts i 0 in
    let rest : List ℕ = drop (i + 1) cuts in
    let piece : List ℕ = take (c - place) (drop place body) in
    let rises : (place < c) × Rise c rest =
    subst (λ (xs : List ℕ). Rise place xs) (cut_at cuts i l) h.rising in
    let long : length piece ≡ c - place =
    length-take-le (c - place) (drop place body)
    (omega (arith, length-drop place body, h.within, rises.0)) in
    let before : map length pieces ++ by_fit n place c rest (nat_le c n) ≡ piece_lengths n 0 cuts =
    subst (λ (xs : List ℕ). map length pieces ++ piece_lengths n place xs ≡ piece_lengths n 0 cuts)
    (cut_at cuts i l) h.lengths in
    record {
      joined = joined_more pieces piece ∙ ap (λ x. x ++ piece) h.joined
          ∙ longer body place c (omega (arith, rises.0));
      lengths = ap (λ x. x ++ piece_lengths n c rest) (map-append length pieces (piece ∷ []))
          ∙ append_assoc (map length pieces) (length piece ∷ []) (piece_lengths n c rest)
          ∙ ap (λ m. map length pieces ++ m ∷ piece_lengths n c rest) long
          ∙ sym (ap (λ b. map length pieces ++ by_fit n place c rest b) (le-leb c n fits)) ∙ before;
      rising = rises.1;
      within = fits;
    }

-- if cuts rise above b, they rise above every a that is at most b
rise_from : (a b : ℕ) (cuts : List ℕ) → a ≤ b → Rise b cuts → Rise a cuts
rise_from a b [] l h = tt
rise_from a b (c ∷ cuts) l h = (omega (arith, h.0), h.1)

-- if the next cut is past the end of the body, the pieces stay as they are
pub passed : (body cuts : List ℕ) (i place : ℕ) (pieces : List (List ℕ)) → i < length cuts
    → length body < get_or cuts i 0 → CutSoFar body cuts i place pieces
    → CutSoFar body cuts (i + 1) place pieces
passed body cuts i place pieces l past h =
    let n : ℕ = length body in
    let c : ℕ = get_or cuts i 0 in
    let rest : List ℕ = drop (i + 1) cuts in
    let rises : (place < c) × Rise c rest =
    subst (λ (xs : List ℕ). Rise place xs) (cut_at cuts i l) h.rising in
    let before : map length pieces ++ by_fit n place c rest (nat_le c n) ≡ piece_lengths n 0 cuts =
    subst (λ (xs : List ℕ). map length pieces ++ piece_lengths n place xs ≡ piece_lengths n 0 cuts)
    (cut_at cuts i l) h.lengths in
    record {
      joined = h.joined;
      lengths = sym (ap (λ b. map length pieces ++ by_fit n place c rest b) (no_more c n past)) ∙ before;
      rising = rise_from place c rest (omega (arith, rises.0)) rises.1;
      within = h.within;
    }

-- the piece after the last cut completes the pieces
pub completed : (body cuts : List ℕ) (i place : ℕ) (pieces all : List (List ℕ)) → length cuts ≤ i
    → CutSoFar body cuts i place pieces → all ≡ pieces ++ take (length body - place) (drop place body) ∷ []
    → AreCut body cuts all
completed body cuts i place pieces all l h made =
    let n : ℕ = length body in
    let last : List ℕ = drop place body in
    let rest : take (n - place) last ≡ last = take_all (n - place) last (omega (arith, length-drop place body)) in
    let whole : all ≡ pieces ++ last ∷ [] = made ∙ ap (λ x. pieces ++ x ∷ []) rest in
    let before : map length pieces ++ (n - place) ∷ [] ≡ piece_lengths n 0 cuts =
    subst (λ (xs : List ℕ). map length pieces ++ piece_lengths n place xs ≡ piece_lengths n 0 cuts)
    (drop_all i cuts l) h.lengths in
    record {
      joined = ap concat whole ∙ joined_more pieces last ∙ ap (λ x. x ++ last) h.joined
          ∙ take-append-drop place body;
      lengths = ap (map length) whole ∙ map-append length pieces (last ∷ [])
          ∙ ap (λ m. map length pieces ++ m ∷ []) (length-drop place body) ∙ before;
    }

-- `CutSoFar` holds of equal places and pieces
pub same_so_far : (body cuts : List ℕ) (i p q : ℕ) (ps qs : List (List ℕ)) → p ≡ q → ps ≡ qs
    → CutSoFar body cuts i q qs → CutSoFar body cuts i p ps
same_so_far body cuts i p q ps qs f g h =
    subst (λ (x : ℕ). CutSoFar body cuts i x ps) (sym f)
    (subst (λ (x : List (List ℕ)). CutSoFar body cuts i q x) (sym g) h)

-- the pieces of the ciphertext, and then the tag, are a sealing with these cuts
pub cut_sealing : (s : Setting) (text cuts sealed : List ℕ) (pieces all : List (List ℕ))
    → Opened s sealed text → length sealed ≡ length text + 16
    → AreCut (take (length text) sealed) cuts pieces → all ≡ pieces ++ drop (length text) sealed ∷ []
    → IsCutSealing s text cuts all
cut_sealing s text cuts sealed pieces all h long cut made =
    let n : ℕ = length text in
    let tag : List ℕ = drop n sealed in
    let size : length (take n sealed) ≡ n = length-take-le n sealed (omega (arith, long)) in
    let short : length tag ≡ 16 = length-drop n sealed ∙ omega (arith, long) in
    let whole : concat all ≡ sealed =
    ap concat made ∙ joined_more pieces tag ∙ ap (λ x. x ++ tag) cut.joined ∙ take-append-drop n sealed in
    record {
      joined = subst (λ (x : List ℕ). Opened s x text) (sym whole) h;
      lengths = ap (map length) made ∙ map-append length pieces (tag ∷ [])
          ∙ ap₂ (λ x m. x ++ m ∷ []) (cut.lengths ∙ ap (λ m. piece_lengths m 0 cuts) size) short;
    }
