use Rattle.std.proofs.Common.{rules, inl, Err}
use Rattle.octets.specs.declared.fault.Fault.TheVariants.{WrapLength}
use Rattle.capi.proofs.key_wrap.aeadkit_unwrap.Goals as goal

pub returns-then-wrapped-lt24 : goal.returns-then-wrapped-lt24
returns-then-wrapped-lt24 c = inl (Err WrapLength, search rules)

pub returns-in-Err : goal.returns-in-Err
returns-in-Err c = inl (Err c.in-Err.fault, search rules)

pub returns-else-text-wrapped : goal.returns-else-text-wrapped
returns-else-text-wrapped c = inl (c.unwrap_to.result, search rules)
