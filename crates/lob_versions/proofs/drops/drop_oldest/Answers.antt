use Rattle.std.proofs.Common.{inl, inr, ℕ, ◌<◌, ◌++◌, [], ◌∷◌, List, map, Option, IfSome, refl, sym, subst, ◌∙◌, arith}
use Rattle.page_model.specs.Pages.{Pages, Address}
use Rattle.page_model.specs.Steps.{Uses}
use Rattle.engine_base.specs.Addresses.{address_of}
use Rattle.file_lists.proofs.LinkLemmas.{handed_on}
use Rattle.store_data.specs.Store.{Version}
use Rattle.store_data.specs.Pieces.{dropped}
use Rattle.lob_model.specs.Pieces.{place_of}
use Rattle.lob_model.specs.Lobs.{lob_pages}
use Rattle.lob_model.specs.Changes.{with_pieces, piece}
use Rattle.lob_index.proofs.HonestLemmas.{honest_on}
use Rattle.lob_versions.specs.declared.drops.Oldest.{Oldest}
use Rattle.lob_versions.specs.Releases.{Releases}
use Rattle.lob_versions.specs.Versions.{HasPiece, LosesVersion, IsOldest, IsOddOldest}
use Rattle.lob_versions.proofs.ReadLemmas.{ends}
use Rattle.lob_index.proofs.AnswerLemmas.{becomes_on}
use Rattle.lob_versions.specs.declared.release.End.TheVariants.{Last}
use Rattle.lob_versions.proofs.LoseLemmas.{drop_ready, drop_loses, may_drop, used_read, used_drop, odd_giving, none_oldest}
use Rattle.lob_versions.proofs.drops.drop_oldest.Goals as goal

pub returns-in_err-oldest-clause-uses : goal.returns-in_err-oldest-clause-uses
returns-in_err-oldest-clause-uses g c = used_read c.args.head.page.0 c.args.first.0 129 c.args.p.now c.read_oldest.new.p c.read_oldest.ensures.uses

pub returns-in_default-clause-uses : goal.returns-in_default-clause-uses
returns-in_default-clause-uses g c = used_read c.args.head.page.0 c.args.first.0 129 c.args.p.now c.read_oldest.new.p c.read_oldest.ensures.uses

pub release-requires-clause-may : goal.release-requires-clause-may
release-requires-clause-may g c =
    let U : Option Oldest → Type 0 = λ found. IfSome found (λ o. Uses g.P.Pages.state g.P.Pages.stays (o.node.page.0 ∷ c.args.head.page.0 ∷ []) 0 0 c.args.p.now c.read_oldest.new.p) in
    may_drop g.P.Pages.stays_on c.in-Some.oldest.node.page.0 c.args.head.page.0 c.args.first.0 c.args.p.now c.read_oldest.new.p c.requires.may (subst U c.in-Some.is c.in_ok-oldest.ensures.named)

pub returns-in_err-release-clause-uses : goal.returns-in_err-release-clause-uses
returns-in_err-release-clause-uses g c =
    let U : Option Oldest → Type 0 = λ found. IfSome found (λ o. Uses g.P.Pages.state g.P.Pages.stays (o.node.page.0 ∷ c.args.head.page.0 ∷ []) 0 0 c.args.p.now c.read_oldest.new.p) in
    used_drop g.P.Pages.stays_on c.in-Some.oldest.node.page.0 c.args.head.page.0 c.args.first.0 c.args.p.now c.read_oldest.new.p c.release.new.p (subst U c.in-Some.is c.in_ok-oldest.ensures.named) c.release.ensures.uses

pub returns-clause-uses : goal.returns-clause-uses
returns-clause-uses g c =
    let U : Option Oldest → Type 0 = λ found. IfSome found (λ o. Uses g.P.Pages.state g.P.Pages.stays (o.node.page.0 ∷ c.args.head.page.0 ∷ []) 0 0 c.args.p.now c.read_oldest.new.p) in
    used_drop g.P.Pages.stays_on c.in-Some.oldest.node.page.0 c.args.head.page.0 c.args.first.0 c.args.p.now c.read_oldest.new.p c.release.new.p (subst U c.in-Some.is c.in_ok-oldest.ensures.named) c.release.ensures.uses

pub returns-in_err-release-clause-honest : goal.returns-in_err-release-clause-honest
returns-in_err-release-clause-honest g c =
    let s = g.P.Pages.state c.args.p.now in
    let t = g.P.Pages.state c.read_oldest.new.p in
    let head = address_of c.args.head in
    honest_on _ _ c.release.result _ _
    (odd_giving (IsOddOldest s.told s.count head) Last c.args.first.0 head (address_of c.in-Some.oldest.node) c.in-Some.oldest.page.0 s t c.read_oldest.ensures.uses.count)
    c.release.ensures.honest c.in_err-release.was c.from_residual-in_err-release.ensures

pub returns-in_default-clause-drops : goal.returns-in_default-clause-drops
returns-in_default-clause-drops g c = λ pages l bs h ys x cs s low.
    let I : Option Oldest → Type 0 = IsOldest c.args.v.0 x in
    let above : c.args.v.0 < x.number = subst I c.in_default.is (c.in_ok-oldest.ensures.value pages l bs h ys x cs s.told' s.lob' s.head') in
    absurd (omega (arith, above, low))

pub returns-in_err-release-clause-never : goal.returns-in_err-release-clause-never
returns-in_err-release-clause-never g c = λ pages l bs q cs s.
    let o = c.in-Some.oldest in
    elim (ends q.older) [
      | inl none ↦ (
          let H : List Version → Type 0 = λ vs. HasPiece (g.P.Pages.state c.args.p.now).told c.args.first.0 (address_of c.args.head) pages l bs (piece q.head vs) cs in
          let s' = subst H none s in
          none_oldest o (sym (c.in_ok-oldest.ensures.none pages l bs q.head cs s'.told' s'.lob' s'.head') ∙ c.in-Some.is)
          )
      | inr found ↦ (
          let ys = found.0 in
          let x = found.1 in
          let H : List Version → Type 0 = λ vs. HasPiece (g.P.Pages.state c.args.p.now).told c.args.first.0 (address_of c.args.head) pages l bs (piece q.head vs) cs in
          let s' = subst H found.2 s in
          let I : Option Oldest → Type 0 = IsOldest c.args.v.0 x in
          let is = subst I c.in-Some.is (c.in_ok-oldest.ensures.value pages l bs q.head ys x cs s'.told' s'.lob' s'.head') in
          let can = drop_ready pages l bs q.head ys x cs (address_of c.args.head) (address_of o.node) o.page.0 s'.lob' s'.map' s'.used s'.head' is.1 is.2 in
          let own = lob_pages (with_pieces l (bs ++ piece q.head (ys ++ x ∷ []) ∷ cs)) in
          handed_on c.release.result _ _ (c.release.ensures.never pages own (with_pieces l (bs ++ piece q.head ys ∷ cs)) (map place_of ys) [] (c.read_oldest.ensures.told ∙ s.told') s.first' can refl) c.in_err-release.was c.from_residual-in_err-release.ensures
          )
    ]

pub returns-clause-newer : goal.returns-clause-newer
returns-clause-newer g c = λ pages l bs h ys x cs s above.
    let I : Option Oldest → Type 0 = IsOldest c.args.v.0 x in
    let is = subst I c.in-Some.is (c.in_ok-oldest.ensures.value pages l bs h ys x cs s.told' s.lob' s.head') in
    let low = is.0 in
    absurd (omega (arith, above, low))

pub returns-clause-none : goal.returns-clause-none
returns-clause-none g c = λ pages l bs h cs s.
    none_oldest c.in-Some.oldest (sym (c.in_ok-oldest.ensures.none pages l bs h cs s.told' s.lob' s.head') ∙ c.in-Some.is)

pub returns-clause-drops : goal.returns-clause-drops
returns-clause-drops g c = λ pages l bs h ys x cs s low.
    let p = piece h (ys ++ x ∷ []) in
    let o = c.in-Some.oldest in
    let I : Option Oldest → Type 0 = IsOldest c.args.v.0 x in
    let is = subst I c.in-Some.is (c.in_ok-oldest.ensures.value pages l bs h ys x cs s.told' s.lob' s.head') in
    let can = drop_ready pages l bs h ys x cs (address_of c.args.head) (address_of o.node) o.page.0 s.lob' s.map' s.used s.head' is.1 is.2 in
    let own = lob_pages (with_pieces l (bs ++ p ∷ cs)) in
    let lob' = with_pieces l (bs ++ piece h ys ∷ cs) in
    let R : Address → ℕ → Pages → Type 0 = λ a k new. Releases own lob' a k pages new in (
      refl,
      becomes_on (R (address_of o.node) o.page.0) (LosesVersion l bs p (dropped p) cs x.place x.page pages) _
          (λ new r. drop_loses pages l bs h ys x cs s.lob' new (subst (λ (a : Address). R a x.page new) is.1 (subst (λ (k : ℕ). R (address_of o.node) k new) is.2 r)))
          (c.in_ok-release.ensures.releases pages own lob' (map place_of ys) [] (c.read_oldest.ensures.told ∙ s.told') s.first' can refl),
    )
