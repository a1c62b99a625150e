use Rattle.std.proofs.Common.{ap, arith, length-append}
use Rattle.aead.specs.Suites.{text_limit}
use Rattle.aead.specs.Ciphers.{setting}
use Rattle.aead.proofs.Found.{found_in_place}
use Rattle.aead.proofs.OneText.{one_text}
use Rattle.aead.proofs.aead.Aead.open_in_place.Goals as goal

pub returns-in_err-check_text-clause-found : goal.returns-in_err-check_text-clause-found
returns-in_err-check_text-clause-found g c = λ text o.
    let size = (one_text _ _ text o).0 in
    absurd (omega (
      arith,
      size,
      length-append c.args.body.now c.args.tag.now,
      c.bytes-given.ensures.are_bytes.length_is,
      c.in_err-check_text.ensures.1,
      ap text_limit c.suite-suite.ensures,
      o.fits.text_fits,
    ))

pub returns-clause-found : goal.returns-clause-found
returns-clause-found g c =
    found_in_place one_text (setting (g.Self.Aead.keyed c.args.self.now) c.args.nonce.now c.args.aad.now)
    c.args.body.now c.args.tag.now c.open_fitting.new.body c.open_fitting.result
    c.bytes-given.ensures.are_bytes.length_is c.open_fitting.ensures
