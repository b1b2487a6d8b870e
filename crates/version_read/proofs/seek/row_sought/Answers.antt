use Rattle.std.proofs.Common.{ℕ, ◌+◌, ◌-◌, [], sym, ◌∙◌, arith}
use Rattle.page_model.proofs.StepLemmas.{may_within, uses_within, uses_at_most}
use Rattle.file_lists.proofs.LinkLemmas.{handed_on}
use Rattle.read_model.specs.Document.{Sees}
use Rattle.read_model.specs.Steps.{judging}
use Rattle.read_model.specs.OfStore.{document}
use Rattle.read_views.specs.Flights.{row_in}
use Rattle.version_read.specs.Seeks.{sees_in}
use Rattle.version_read.proofs.WalkLemmas.{reading_on}
use Rattle.version_read.proofs.SeekLemmas.{back_on, found_on, stopped_on}
use Rattle.version_read.proofs.seek.row_sought.Goals as goal

pub returns-then-is_seen-clause-finds : goal.returns-then-is_seen-clause-finds
returns-then-is_seen-clause-finds g c = λ pages store d shown reading.
    let sees : Sees = sees_in c.args.views.now c.args.view in
    found_on sees (document store d) shown (8 - c.rows._n) (row_in c.args.first) (row_in c.rows.row)
    (c.rows.invariant.value pages store d shown reading)
    (sym c.is_seen.ensures ∙ c.if-is_seen.true)

pub row_behind-requires : goal.row_behind-requires
row_behind-requires g c =
    let t = c.rows-test.true in
    record {
      may = may_within [] [] 8 0 c.rows._n 0 1 0 _ _ (λ n is. is) (omega (arith, t)) (omega arith)
          c.requires.may c.rows.invariant.uses;
    }

pub returns-in_err-row-clause-never : goal.returns-in_err-row-clause-never
returns-in_err-row-clause-never g c = λ pages store d shown reading.
    let i = c.rows.invariant in
    let sees : Sees = sees_in c.args.views.now c.args.view in
    let al = i.value pages store d shown reading in
    handed_on c.row_behind.result _ _ (c.row_behind.ensures.never pages store d sees shown
    (reading_on _ _ pages store d sees shown _ (judging (row_in c.rows.row)) i.told reading al.kept)
    (sym c.is_seen.ensures ∙ c.if-is_seen.false)) c.in_err-row.was c.from_residual.ensures

pub returns-in_err-row-clause-uses : goal.returns-in_err-row-clause-uses
returns-in_err-row-clause-uses g c =
    let t = c.rows-test.true in
    let n : ℕ = c.rows._n in
    uses_at_most [] (n + 1) 0 8 0 _ _ (omega (arith, t)) (omega arith)
    (uses_within g.P.Pages.stays_on [] [] n 0 1 0 _ _ _ (λ m is. is) c.rows.invariant.uses
    c.row_behind.ensures.uses)

pub rows-preserved : goal.rows-preserved
rows-preserved g c =
    let i = c.rows.invariant in
    let n : ℕ = c.rows._n in
    let t = c.rows-test.true in
    let sees : Sees = sees_in c.args.views.now c.args.view in
    record {
      told = c.row_behind.ensures.told ∙ i.told;
      faults = omega (arith, i.faults, c.row_behind.ensures.cause.later);
      uses = uses_within g.P.Pages.stays_on [] [] n 0 1 0 _ _ _ (λ m is. is) i.uses
          c.row_behind.ensures.uses;
      value = λ pages store d shown reading.
          let al = i.value pages store d shown reading in
          let back = c.in_ok-row.ensures.back pages store d sees shown
          (reading_on _ _ pages store d sees shown _ (judging (row_in c.rows.row)) i.told reading
          al.kept) (sym c.is_seen.ensures ∙ c.if-is_seen.false) in
          back_on sees (document store d) shown (8 - n) (8 - (n + 1)) (row_in c.args.first)
          (row_in c.rows.row) (row_in c.in_ok-row.row) (omega (arith, t)) al back;
    }

pub returns-clause-finds : goal.returns-clause-finds
returns-clause-finds g c = λ pages store d shown reading.
    let t = c.rows-test.false in
    let sees : Sees = sees_in c.args.views.now c.args.view in
    stopped_on sees (document store d) shown (8 - c.rows._n) (row_in c.args.first)
    (row_in c.rows.row) (c.rows.invariant.value pages store d shown reading) (omega (arith, t))
