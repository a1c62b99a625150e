use Rattle.std.proofs.Common.{rules, inl, Ok, Err}
use Rattle.octets.specs.declared.fault.Fault.TheVariants.{WrapLength, TextTooLong}
use Rattle.capi.proofs.key_wrap.aeadkit_unwrap_padded.Goals as goal

pub returns-then-wrapped-lt16 : goal.returns-then-wrapped-lt16
returns-then-wrapped-lt16 c = inl (Err WrapLength, search rules)

pub returns-then-wrapped : goal.returns-then-wrapped
returns-then-wrapped c = inl (Err TextTooLong, search rules)

pub returns-in-Ok-unwrap_padded_to : goal.returns-in-Ok-unwrap_padded_to
returns-in-Ok-unwrap_padded_to c = inl (Ok tt, search rules)

pub returns-in-Err-unwrap_padded_to : goal.returns-in-Err-unwrap_padded_to
returns-in-Err-unwrap_padded_to c = inl (Err c.in-Err-unwrap_padded_to.fault, search rules)

pub returns-in-Err : goal.returns-in-Err
returns-in-Err c = inl (Err c.in-Err.fault, search rules)
