-- Suites with different numbers or marks are different.
use Rattle.std.proofs.Common.{◌≡◌, ◌≤◌, ℕ, nat_eq, refl, sym, ap, ◌∙◌, arith, Option, Some, None}
use Rattle.std.specs.Prelude.{if◌then◌else◌}
use Rattle.aead.specs.declared.suite.Suite.{Suite}
use Rattle.aead.specs.declared.suite.Suite.TheVariants.{
  ChaCha20Poly1305,
  Aes128Gcm,
  Aes192Gcm,
  Aes256Gcm,
  Aes128GcmSiv,
  Aes256GcmSiv,
}
use Rattle.aead.specs.Suites.{suite_number}
use Rattle.capi.specs.Keys.{key_mark}

-- the suite of a number
suite_of : ℕ → Suite
suite_of n =
    if nat_eq n 1 then ChaCha20Poly1305 else
    (if nat_eq n 2 then Aes128Gcm else
    (if nat_eq n 3 then Aes192Gcm else
    (if nat_eq n 4 then Aes256Gcm else
    (if nat_eq n 5 then Aes128GcmSiv else Aes256GcmSiv))))

-- the suite of a suite's number is that suite
of_number : (s : Suite) → suite_of (suite_number s) ≡ s
unfolding suite_of
of_number ChaCha20Poly1305 = refl
of_number Aes128Gcm = refl
of_number Aes192Gcm = refl
of_number Aes256Gcm = refl
of_number Aes128GcmSiv = refl
of_number Aes256GcmSiv = refl

-- suites with the same number are the same
pub one_number : (s t : Suite) → suite_number s ≡ suite_number t → s ≡ t
one_number s t e = sym (of_number s) ∙ ap suite_of e ∙ of_number t

-- suites with the same mark are the same
pub one_suite : (s t : Suite) → key_mark s ≡ key_mark t → s ≡ t
one_suite s t e = one_number s t (omega (arith, e))

-- the numbers of the suites go up to 6
pub six : (s : Suite) → suite_number s ≤ 6
six ChaCha20Poly1305 = omega arith
six Aes128Gcm = omega arith
six Aes192Gcm = omega arith
six Aes256Gcm = omega arith
six Aes128GcmSiv = omega arith
six Aes256GcmSiv = omega arith

-- an option that is not any suite is `None`
pub none_of : (r : Option Suite) → ((s : Suite) → r ≡ Some s → ⊥) → r ≡ None
none_of None never = refl
none_of (Some s) never = absurd (never s refl)
