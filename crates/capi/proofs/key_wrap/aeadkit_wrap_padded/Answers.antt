use Rattle.std.proofs.Common.{rules, inl, Err}
use Rattle.octets.specs.declared.fault.Fault.TheVariants.{WrapLength, TextTooLong}
use Rattle.capi.proofs.key_wrap.aeadkit_wrap_padded.Goals as goal

pub returns-then-text-eq0 : goal.returns-then-text-eq0
returns-then-text-eq0 c = inl (Err WrapLength, search rules)

pub returns-then-text : goal.returns-then-text
returns-then-text c = inl (Err TextTooLong, search rules)

pub returns-in-Err : goal.returns-in-Err
returns-in-Err c = inl (Err c.in-Err.fault, search rules)
