-- The suite and the key of a cipher of any suite.
use Rattle.aead.specs.declared.any.AnyOnePass.{AnyOnePass}
use Rattle.aead.specs.declared.any.AnyOnePass.TheVariants.{ChaCha, Gcm}
use Rattle.aead.specs.declared.any.AnyAead.{AnyAead}
use Rattle.aead.specs.declared.any.AnyAead.TheVariants.{OnePass, Siv}
use Rattle.aead.specs.Ciphers.{Keyed}

-- the suite and the key of a cipher whose tag is over the ciphertext
abbrev pub one_pass_keyed : AnyOnePass → Keyed
one_pass_keyed (ChaCha c) = c
one_pass_keyed (Gcm c) = c

-- the suite and the key of any cipher
abbrev pub keyed_of : AnyAead → Keyed
keyed_of (OnePass c) = one_pass_keyed c
keyed_of (Siv c) = c
