use Rattle.aead.proofs.gcm.BorrowedGcmAead.seal_fitting.Goals as goal

pub returns-then-is_short : goal.returns-then-is_short
returns-then-is_short g c =
    let gcm = c.args.self.now in
    c.seal_short.ensures gcm.suite gcm.by_gcm gcm.multiplier_is
    (record { aad_fits = c.requires.aad_fits; text_fits = c.requires.text_fits })
