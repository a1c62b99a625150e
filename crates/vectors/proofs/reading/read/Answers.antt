use Rattle.std.proofs.Common.{rules, ap, ◌∙◌, subst, ◌≡◌, ◌∷◌, [], Ok, Err, true, false, arith}
use Rattle.std.proofs.lemmas.Result.{err_from_is_err_and}
use Rattle.vectors.specs.Lines.{lines_of}
use Rattle.vectors.specs.Code.Steps.{Place, step}
use Rattle.vectors.specs.Faults.{is_inside}
use Rattle.vectors.specs.Code.Views.{entry_view, view}
use Rattle.vectors.specs.Code.Judging.{Judges}
use Rattle.vectors.proofs.Places.{expected}
use Rattle.vectors.proofs.LineLemmas.{lines_nil}
use Rattle.vectors.proofs.Progress.{inside_is, not_between, not_start}
use Rattle.vectors.proofs.Judged.{Judged, sized_at_end, start, after_line, after_record, at_fault, at_end}
use Rattle.vectors.proofs.Judged.{at_cut, lines_read, ended_at}
use Rattle.vectors.proofs.reading.read.Goals as goal

pub loop-line-init : goal.loop-line-init
loop-line-init g c = record
    { so_far = start (lines_of c.args.file.now) c.new.result.items c.new.ensures.items; room = omega arith }

pub returns-in-Err-clause-fault : goal.returns-in-Err-clause-fault
returns-in-Err-clause-fault g c =
    at_fault (lines_of c.args.file.now) (lines_of c.loop-line.rest.now) c.in-Some.line.now
    (lines_of c.in-Some.behind.now) c.loop-line.count (view c.loop-line.place) c.in-Err.cause
    c.loop-line.report.records c.loop-line.report.bad.items c.loop-line.invariant.so_far
    c.in-Some.ensures.line c.in-Err.ensures

pub loop-line-preserved-in-Ok-None : goal.loop-line-preserved-in-Ok-None
loop-line-preserved-in-Ok-None g c =
    let next = view c.in-Ok-None.field-0.place in
    let stepped : step (view c.loop-line.place) c.in-Some.line.now ≡ Ok (next, []) = search rules in
    record {
      so_far = after_line (lines_of c.args.file.now) (lines_of c.loop-line.rest.now) c.in-Some.line.now
          (lines_of c.in-Some.behind.now) c.loop-line.count (view c.loop-line.place) next
          c.loop-line.report.records c.loop-line.report.bad.items c.loop-line.invariant.so_far
          c.in-Some.ensures.line stepped;
      room = omega (arith, c.in-Some.ensures.shorter);
    }

pub judge-requires-clause-sized : goal.judge-requires-clause-sized
judge-requires-clause-sized g c =
    let next = view c.in-Ok-Some.field-0.place in
    let made = entry_view c.in-Ok-Some.entry in
    let stepped : step (view c.loop-line.place) c.in-Some.line.now ≡ Ok (next, made ∷ []) = search rules in
    sized_at_end (lines_of c.args.file.now) (lines_of c.loop-line.rest.now) c.in-Some.line.now
    (lines_of c.in-Some.behind.now) c.loop-line.count (view c.loop-line.place) next made
    c.loop-line.report.records c.loop-line.report.bad.items c.loop-line.invariant.so_far
    c.in-Some.ensures.line stepped

pub returns-in_err-judge-in-Ok-Some-clause-fault : goal.returns-in_err-judge-in-Ok-Some-clause-fault
returns-in_err-judge-in-Ok-Some-clause-fault g c =
    let next = view c.in-Ok-Some.field-0.place in
    let made = entry_view c.in-Ok-Some.entry in
    let stepped : step (view c.loop-line.place) c.in-Some.line.now ≡ Ok (next, made ∷ []) = search rules in
    let p = err_from_is_err_and c.from_residual.result c.from_residual.ensures.1 in
    rw (p.1 ∙ ap Err p.2) (ended_at (lines_of c.args.file.now) (lines_of c.loop-line.rest.now)
    c.in-Some.line.now (lines_of c.in-Some.behind.now) c.loop-line.count (view c.loop-line.place) next made
    c.loop-line.report.records c.loop-line.report.bad.items c.loop-line.invariant.so_far
    c.in-Some.ensures.line stepped)

pub loop-line-preserved : goal.loop-line-preserved
loop-line-preserved g c =
    let next = view c.in-Ok-Some.field-0.place in
    let made = entry_view c.in-Ok-Some.entry in
    let report = c.loop-line.report in
    let after = c.judge.new.self in
    let stepped : step (view c.loop-line.place) c.in-Some.line.now ≡ Ok (next, made ∷ []) = search rules in
    let judged : Judges report.records report.bad.items made after.records after.bad.items =
    c.in_ok-judge-in-Ok-Some.ensures in
    record {
      so_far = after_record (lines_of c.args.file.now) (lines_of c.loop-line.rest.now) c.in-Some.line.now
          (lines_of c.in-Some.behind.now) c.loop-line.count (view c.loop-line.place) next made
          report.records after.records report.bad.items after.bad.items c.loop-line.invariant.so_far
          c.in-Some.ensures.line stepped judged;
      room = omega (arith, c.in-Some.ensures.shorter);
    }

pub returns-in-Start-clause-fault : goal.returns-in-Start-clause-fault
returns-in-Start-clause-fault g c =
    let place = view c.loop-line.place in
    let ended : c.loop-line.rest.now ≡ [] = search rules in
    at_cut (lines_of c.args.file.now) (lines_of c.loop-line.rest.now) c.loop-line.count place false
    c.loop-line.report.records c.loop-line.report.bad.items c.loop-line.invariant.so_far
    (ap lines_of ended ∙ lines_nil) (λ F e. absurd (not_start place F (ap view c.in-Start.is) e))
    (ap (λ p. is_inside (expected (view p))) c.in-Start.is)

pub returns-then-report-eq0-clause-fault : goal.returns-then-report-eq0-clause-fault
returns-then-report-eq0-clause-fault g c =
    let ended : c.loop-line.rest.now ≡ [] = search rules in
    at_cut (lines_of c.args.file.now) (lines_of c.loop-line.rest.now) c.loop-line.count
    (view c.loop-line.place) false c.loop-line.report.records c.loop-line.report.bad.items
    c.loop-line.invariant.so_far
    (ap lines_of ended ∙ lines_nil) (λ F e. c.if-report-eq0.true)
    (ap (λ p. is_inside (expected (view p))) c.in-Between.is)

pub returns-then-report-eq0-clause-report : goal.returns-then-report-eq0-clause-report
returns-then-report-eq0-clause-report g c = tt

pub returns-else-report-eq0-clause-report : goal.returns-else-report-eq0-clause-report
returns-else-report-eq0-clause-report g c =
    let ended : c.loop-line.rest.now ≡ [] = search rules in
    let report = c.loop-line.report in
    let lines = lines_of c.args.file.now in
    let rest = lines_of c.loop-line.rest.now in
    at_end lines rest c.loop-line.count report.records report.bad.items c.in-Between.field-0
    (subst (λ (p : Place). Judged lines rest c.loop-line.count p report.records report.bad.items)
    (ap view c.in-Between.is) c.loop-line.invariant.so_far) (ap lines_of ended ∙ lines_nil)
    c.if-report-eq0.false

pub returns-in_default-place-clause-fault : goal.returns-in_default-place-clause-fault
returns-in_default-place-clause-fault g c =
    let place = view c.loop-line.place in
    let ended : c.loop-line.rest.now ≡ [] = search rules in
    let inside = inside_is c.loop-line.place c.in_default-place.not-Start c.in_default-place.not-Between in
    let lines = lines_of c.args.file.now in
    let rest = lines_of c.loop-line.rest.now in
    let so_far = c.loop-line.invariant.so_far in
    let none_left = ap lines_of ended ∙ lines_nil in (
      at_cut lines rest c.loop-line.count place true c.loop-line.report.records c.loop-line.report.bad.items
          so_far none_left (λ F e. absurd (not_between place F inside e)) inside,
      lines_read lines rest c.loop-line.count place c.loop-line.report.records c.loop-line.report.bad.items
          so_far none_left,
    )
