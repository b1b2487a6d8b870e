use Rattle.std.proofs.Common.{ℕ, ◌++◌, [], ◌∷◌, map, refl, subst, ◌∙◌}
use Rattle.page_model.specs.Pages.{Pages, Address}
use Rattle.engine_base.specs.Addresses.{address_of}
use Rattle.file_lists.proofs.LinkLemmas.{handed_on}
use Rattle.store_data.specs.Pieces.{popped}
use Rattle.lob_model.specs.Pieces.{place_of}
use Rattle.lob_model.specs.Lobs.{lob_pages}
use Rattle.lob_model.specs.Changes.{with_pieces, piece}
use Rattle.lob_index.proofs.HonestLemmas.{honest_on}
use Rattle.lob_versions.specs.Releases.{Releases}
use Rattle.lob_versions.specs.Versions.{LosesVersion, IsOddNewest}
use Rattle.lob_index.proofs.AnswerLemmas.{becomes_on}
use Rattle.lob_versions.specs.declared.release.End.TheVariants.{First}
use Rattle.lob_versions.proofs.LoseLemmas.{pop_ready, pop_loses, may_write, may_give_up, used_read, used_write, used_pop, odd_giving}
use Rattle.lob_versions.proofs.pops.pop_version.Goals as goal

pub returns-in_err-newest-clause-uses : goal.returns-in_err-newest-clause-uses
returns-in_err-newest-clause-uses g c = used_read c.args.head.page.0 c.args.first.0 169 c.args.p.now c.read_newest.new.p c.read_newest.ensures.uses

pub write_fields-requires-clause-may : goal.write_fields-requires-clause-may
write_fields-requires-clause-may g c =
    may_write g.P.Pages.stays_on c.in_ok-newest.newest.node.page.0 c.args.head.page.0 c.args.first.0 c.args.p.now c.read_newest.new.p c.requires.may c.in_ok-newest.ensures.named

pub returns-in_err-write_fields-clause-uses : goal.returns-in_err-write_fields-clause-uses
returns-in_err-write_fields-clause-uses g c =
    used_write g.P.Pages.stays_on c.in_ok-newest.newest.node.page.0 c.args.head.page.0 c.args.first.0 c.args.p.now c.read_newest.new.p c.write_fields.new.p c.in_ok-newest.ensures.named c.write_fields.ensures.uses

pub release-requires-clause-may : goal.release-requires-clause-may
release-requires-clause-may g c =
    may_give_up g.P.Pages.stays_on c.in_ok-newest.newest.node.page.0 c.args.head.page.0 c.args.first.0 c.args.p.now c.read_newest.new.p c.write_fields.new.p c.requires.may c.in_ok-newest.ensures.named c.write_fields.ensures.uses

pub returns-in_err-release-clause-uses : goal.returns-in_err-release-clause-uses
returns-in_err-release-clause-uses g c =
    used_pop g.P.Pages.stays_on c.in_ok-newest.newest.node.page.0 c.args.head.page.0 c.args.first.0 c.args.p.now c.read_newest.new.p c.write_fields.new.p c.release.new.p c.in_ok-newest.ensures.named c.write_fields.ensures.uses c.release.ensures.uses

pub returns-clause-uses : goal.returns-clause-uses
returns-clause-uses g c =
    used_pop g.P.Pages.stays_on c.in_ok-newest.newest.node.page.0 c.args.head.page.0 c.args.first.0 c.args.p.now c.read_newest.new.p c.write_fields.new.p c.release.new.p c.in_ok-newest.ensures.named c.write_fields.ensures.uses c.release.ensures.uses

pub returns-in_err-release-clause-honest : goal.returns-in_err-release-clause-honest
returns-in_err-release-clause-honest g c =
    let s = g.P.Pages.state c.args.p.now in
    let t = g.P.Pages.state c.write_fields.new.p in
    let head = address_of c.args.head in
    honest_on _ _ c.release.result _ _
    (odd_giving (IsOddNewest s.told s.count head) First c.args.first.0 head (address_of c.in_ok-newest.newest.node) c.in_ok-newest.newest.page.0 s t (c.write_fields.ensures.uses.count ∙ c.read_newest.ensures.uses.count))
    c.release.ensures.honest c.in_err-release.was c.from_residual-in_err-release.ensures

pub returns-in_err-release-clause-never : goal.returns-in_err-release-clause-never
returns-in_err-release-clause-never g c = λ pages l bs h x more cs s.
    let p = piece h (x ∷ more) in
    let own = lob_pages (with_pieces l (bs ++ p ∷ cs)) in
    let lob' = with_pieces l (bs ++ popped p ∷ cs) in
    let n = c.in_ok-newest.newest in
    let newest = c.in_ok-newest.ensures.value pages l bs h x more cs s.told' s.lob' s.head' in
    let b = pop_ready _ _ pages l bs h x more cs n.fields (address_of c.args.head) (address_of n.node) n.page.0 (c.read_newest.ensures.told ∙ s.told') s.lob' s.map' s.used s.head' newest.node newest.page newest.fields
    c.in_ok-write_fields.ensures.sets in
    handed_on c.release.result _ _ (c.release.ensures.never b.0 own lob' [] (map place_of more) b.1 s.first' b.2.1 refl) c.in_err-release.was c.from_residual-in_err-release.ensures

pub returns-clause-pops : goal.returns-clause-pops
returns-clause-pops g c = λ pages l bs h x more cs s.
    let p = piece h (x ∷ more) in
    let own = lob_pages (with_pieces l (bs ++ p ∷ cs)) in
    let lob' = with_pieces l (bs ++ popped p ∷ cs) in
    let n = c.in_ok-newest.newest in
    let newest = c.in_ok-newest.ensures.value pages l bs h x more cs s.told' s.lob' s.head' in
    let b = pop_ready _ _ pages l bs h x more cs n.fields (address_of c.args.head) (address_of n.node) n.page.0 (c.read_newest.ensures.told ∙ s.told') s.lob' s.map' s.used s.head' newest.node newest.page newest.fields
    c.in_ok-write_fields.ensures.sets in
    let R : Address → ℕ → Pages → Type 0 = λ a k new. Releases own lob' a k b.0 new in (
      newest.node,
      becomes_on (R (address_of n.node) n.page.0) (LosesVersion l bs p (popped p) cs x.place h.page pages) _
          (λ new r. pop_loses pages l bs h x more cs s.lob' b.0 new s.used b.2.0 (subst (λ (a : Address). R a h.page new) newest.node (subst (λ (k : ℕ). R (address_of n.node) k new) newest.page r)))
          (c.in_ok-release.ensures.releases b.0 own lob' [] (map place_of more) b.1 s.first' b.2.1 refl),
    )
