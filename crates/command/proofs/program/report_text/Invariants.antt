use Rattle.std.proofs.Common.{◌≡◌, take, string_bytes}
use Rattle.command.specs.Reports.{report_text}
use Rattle.command.proofs.program.report_text.Given as goal

abbrev pub invariant-loop-number : goal.invariant-loop-number
invariant-loop-number g l = string_bytes l.text ≡ report_text l.fn.records (take l.number-index l.bad)
