use Rattle.std.proofs.Common.{rules, inl, Err}
use Rattle.octets.specs.declared.fault.Fault.TheVariants.{WrapLength}
use Rattle.capi.proofs.key_wrap.aeadkit_wrap.Goals as goal

pub returns-then-text-lt16 : goal.returns-then-text-lt16
returns-then-text-lt16 c = inl (Err WrapLength, search rules)

pub returns-in-Err : goal.returns-in-Err
returns-in-Err c = inl (Err c.in-Err.fault, search rules)
