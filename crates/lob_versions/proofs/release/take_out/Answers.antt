use Rattle.std.proofs.Common.{◌∷◌, ◌++◌, List, IfErr, OnOk, sym, subst}
use Rattle.page_model.specs.Pages.{Address}
use Rattle.page_model.specs.Lists.{IsList}
use Rattle.page_model.specs.Steps.{Becomes}
use Rattle.page_model.proofs.StepLemmas.{uses_bound}
use Rattle.engine_base.specs.Addresses.{address_of}
use Rattle.engine_base.specs.Faults.{FailsPlainly, IsHonest}
use Rattle.file_lists.specs.Changes.{ChangesList}
use Rattle.file_lists.specs.Near.{near_behind, near_before}
use Rattle.file_lists.proofs.NearLemmas.{may_behind, may_before, behind_few, before_few}
use Rattle.lob_versions.specs.declared.release.End.{End}
use Rattle.lob_versions.specs.Releases.{IsAt, IsOddAtEnd}
use Rattle.lob_versions.proofs.ReleaseLemmas.{at_first, at_last, but_last}
use Rattle.lob_versions.proofs.release.take_out.Goals as goal

pub remove_first-requires-clause-may : goal.remove_first-requires-clause-may
remove_first-requires-clause-may g c = may_behind (g.P.Pages.state c.args.p.now) (address_of c.args.node) _ 40 c.requires.may

pub remove_last-requires-clause-may : goal.remove_last-requires-clause-may
remove_last-requires-clause-may g c = may_before (g.P.Pages.state c.args.p.now) (address_of c.args.node) _ 40 c.requires.may

pub returns-in-First-clause-uses : goal.returns-in-First-clause-uses
returns-in-First-clause-uses g c =
    let s = g.P.Pages.state c.args.p.now in
    uses_bound (near_behind s (address_of c.args.node)) _ 1 40 _ _ (behind_few s (address_of c.args.node)) c.remove_first.ensures.uses

pub returns-in-Last-clause-uses : goal.returns-in-Last-clause-uses
returns-in-Last-clause-uses g c =
    let s = g.P.Pages.state c.args.p.now in
    uses_bound (near_before s (address_of c.args.node)) _ 1 40 _ _ (before_few s (address_of c.args.node)) c.remove_last.ensures.uses

pub returns-in-First-clause-honest : goal.returns-in-First-clause-honest
returns-in-First-clause-honest g c =
    let H : End → Type 0 = λ d. IfErr c.remove_first.result (IsHonest (IsOddAtEnd d (g.P.Pages.state c.args.p.now) (address_of c.args.base) (address_of c.args.node))) in
    subst H (sym c.in-First.is) c.remove_first.ensures.honest

pub returns-in-Last-clause-honest : goal.returns-in-Last-clause-honest
returns-in-Last-clause-honest g c =
    let H : End → Type 0 = λ d. IfErr c.remove_last.result (IsHonest (IsOddAtEnd d (g.P.Pages.state c.args.p.now) (address_of c.args.base) (address_of c.args.node))) in
    subst H (sym c.in-Last.is) c.remove_last.ensures.honest

pub returns-in-First-clause-removes : goal.returns-in-First-clause-removes
returns-in-First-clause-removes g c = λ pages before behind told list at.
    let base = address_of c.args.base in
    let node = address_of c.args.node in
    let A : End → Type 0 = λ d. IsAt d before behind in
    let R : List Address → List Address → Type 0 = λ xs ys. IsList pages base (xs ++ node ∷ ys) → OnOk c.remove_first.result (Becomes (g.P.Pages.state c.remove_first.new.p).told (ChangesList base (xs ++ node ∷ ys) (xs ++ ys) pages)) in
    at_first R before behind (subst A c.in-First.is at) (λ l. c.remove_first.ensures.removes pages behind told l) list

pub returns-in-Last-clause-removes : goal.returns-in-Last-clause-removes
returns-in-Last-clause-removes g c = λ pages before behind told list at.
    let base = address_of c.args.base in
    let node = address_of c.args.node in
    let A : End → Type 0 = λ d. IsAt d before behind in
    let new = (g.P.Pages.state c.remove_last.new.p).told in
    let R : List Address → List Address → Type 0 = λ xs ys. IsList pages base (xs ++ node ∷ ys) → OnOk c.remove_last.result (Becomes new (ChangesList base (xs ++ node ∷ ys) (xs ++ ys) pages)) in
    at_last R before behind (subst A c.in-Last.is at) (λ l. but_last c.remove_last.result new pages base node before (c.remove_last.ensures.removes pages before told l)) list

pub returns-in-First-clause-never : goal.returns-in-First-clause-never
returns-in-First-clause-never g c = λ pages before behind told list at.
    let base = address_of c.args.base in
    let node = address_of c.args.node in
    let A : End → Type 0 = λ d. IsAt d before behind in
    let R : List Address → List Address → Type 0 = λ xs ys. IsList pages base (xs ++ node ∷ ys) → FailsPlainly c.remove_first.result in
    at_first R before behind (subst A c.in-First.is at) (λ l. c.remove_first.ensures.never pages behind told l) list

pub returns-in-Last-clause-never : goal.returns-in-Last-clause-never
returns-in-Last-clause-never g c = λ pages before behind told list at.
    let base = address_of c.args.base in
    let node = address_of c.args.node in
    let A : End → Type 0 = λ d. IsAt d before behind in
    let R : List Address → List Address → Type 0 = λ xs ys. IsList pages base (xs ++ node ∷ ys) → FailsPlainly c.remove_last.result in
    at_last R before behind (subst A c.in-Last.is at) (λ l. c.remove_last.ensures.never pages before told l) list
