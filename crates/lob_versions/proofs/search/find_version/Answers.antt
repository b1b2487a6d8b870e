use Rattle.std.proofs.Common.{◌≡◌, ℕ, ◌+◌, ◌-◌, [], ◌∷◌, map, Option, IfSome, subst, ◌∙◌, arith}
use Rattle.page_model.specs.Lists.{first_of}
use Rattle.page_model.specs.Steps.{Touches}
use Rattle.engine_base.specs.Addresses.{address_of}
use Rattle.engine_base.specs.declared.addr.Addr.{Addr}
use Rattle.file_lists.specs.Links.{link_of}
use Rattle.file_lists.proofs.LinkLemmas.{handed_on}
use Rattle.lob_model.specs.Pieces.{place_of}
use Rattle.lob_model.specs.Search.{sought}
use Rattle.lob_pages.specs.Entries.{FitsPage}
use Rattle.lob_versions.proofs.ReachLemmas.{reach_on, near_on, near_next, near_may, reach_uses}
use Rattle.lob_versions.proofs.PieceLemmas.{entry_found, entry_plain}
use Rattle.lob_versions.proofs.StepLemmas.{along_at, along_gone, along_next, along_more, number_is, there}
use Rattle.lob_versions.proofs.search.find_version.Goals as goal

pub read_field-requires-clause-may : goal.read_field-requires-clause-may
read_field-requires-clause-may g c = near_may c.args.from.page.0 c.nodes._n c.nodes.node.page.0 _ _ c.requires.may (let t = c.nodes-test.true in omega (arith, t)) c.nodes.invariant.near

pub returns-then-number-from-clause-finds : goal.returns-then-number-from-clause-finds
returns-then-number-from-clause-finds g c = λ pages lob piece x rest search'.
    let node = address_of c.nodes.node in
    let target = sought 8 c.args.v.0 (x ∷ rest) in
    let al = c.nodes.invariant.value pages lob piece x rest search' in
    let left = 8 - c.nodes._n in
    let number = number_is _ _ _ pages lob piece x rest search' c.args.v.0 left node target al _ c.in_ok-number.number (c.nodes.invariant.told ∙ search'.told') c.in_ok-number.ensures.value in
    let t = c.nodes-test.true in
    let below = c.if-number-from.true in
    along_at piece c.args.v.0 left (7 - c.nodes._n) node target al (omega (arith, t)) (omega (arith, below, number, c.from.ensures))

pub entry_at-requires-clause-may : goal.entry_at-requires-clause-may
entry_at-requires-clause-may g c =
    near_may c.args.from.page.0 c.nodes._n c.nodes.node.page.0 _ _ c.requires.may (let t = c.nodes-test.true in omega (arith, t))
    (near_on c.args.from.page.0 c.nodes._n c.nodes.node.page.0 _ _ _ c.nodes.invariant.near c.read_field.ensures.uses.touches)

pub returns-in_err-next-clause-never : goal.returns-in_err-next-clause-never
returns-in_err-next-clause-never g c = λ pages lob piece x rest search'.
    let node = address_of c.nodes.node in
    let target = sought 8 c.args.v.0 (x ∷ rest) in
    let al = c.nodes.invariant.value pages lob piece x rest search' in
    let is = c.read_field.ensures.told ∙ (c.nodes.invariant.told ∙ search'.told') in
    let behind = there _ _ _ pages lob piece x rest search' c.args.v.0 (8 - c.nodes._n) node target al c.older_at.result c.older_at.ensures.head c.older_at.ensures.other in
    handed_on c.entry_at.result _ _ (entry_plain c.entry_at.result _ _ node.page c.older_at.result pages (first_of (map place_of al.rest)) (g.P.Pages.whole c.read_field.new.p pages is) is c.entry_at.ensures.never behind) c.in_err-next.was c.from_residual-in_err-next.ensures

pub returns-in_err-next-clause-uses : goal.returns-in_err-next-clause-uses
returns-in_err-next-clause-uses g c =
    let i = c.nodes.invariant in
    let u = c.read_field.ensures.uses in
    let w = c.entry_at.ensures.uses in
    reach_uses c.args.from.page.0 c.nodes._n _ _ (let t = c.nodes-test.true in omega (arith, t)) (w.count ∙ u.count ∙ i.count) (omega (arith, i.room, u.room, w.room)) (g.P.Pages.stays_on _ _ _ (g.P.Pages.stays_on _ _ _ i.stays u.same) w.same)
    (reach_on c.args.from.page.0 c.nodes._n c.nodes.node.page.0 _ _ _ (near_on c.args.from.page.0 c.nodes._n c.nodes.node.page.0 _ _ _ i.near u.touches) w.touches)

pub returns-in_default-clause-uses : goal.returns-in_default-clause-uses
returns-in_default-clause-uses g c =
    let i = c.nodes.invariant in
    let u = c.read_field.ensures.uses in
    let w = c.entry_at.ensures.uses in
    reach_uses c.args.from.page.0 c.nodes._n _ _ (let t = c.nodes-test.true in omega (arith, t)) (w.count ∙ u.count ∙ i.count) (omega (arith, i.room, u.room, w.room)) (g.P.Pages.stays_on _ _ _ (g.P.Pages.stays_on _ _ _ i.stays u.same) w.same)
    (reach_on c.args.from.page.0 c.nodes._n c.nodes.node.page.0 _ _ _ (near_on c.args.from.page.0 c.nodes._n c.nodes.node.page.0 _ _ _ i.near u.touches) w.touches)

pub returns-in_default-clause-finds : goal.returns-in_default-clause-finds
returns-in_default-clause-finds g c = λ pages lob piece x rest search'.
    let node = address_of c.nodes.node in
    let target = sought 8 c.args.v.0 (x ∷ rest) in
    let al = c.nodes.invariant.value pages lob piece x rest search' in
    let left = 8 - c.nodes._n in
    let is0 = c.nodes.invariant.told ∙ search'.told' in
    let is = c.read_field.ensures.told ∙ is0 in
    let number = number_is _ _ _ pages lob piece x rest search' c.args.v.0 left node target al _ c.in_ok-number.number is0 c.in_ok-number.ensures.value in
    let behind = there _ _ _ pages lob piece x rest search' c.args.v.0 left node target al c.older_at.result c.older_at.ensures.head c.older_at.ensures.other in
    let link = entry_found c.in_ok-next.field-0 _ _ node.page c.older_at.result pages (first_of (map place_of al.rest)) (g.P.Pages.few c.read_field.new.p) (g.P.Pages.whole c.read_field.new.p pages is) is c.in_ok-next.ensures.value c.in_ok-next.ensures.place behind in
    let P : Option Addr → Type 0 = λ o. link_of o ≡ first_of (map place_of al.rest) in
    let t = c.nodes-test.true in
    let above = c.if-number-from.false in
    along_gone piece c.args.v.0 left (7 - c.nodes._n) node target al (omega (arith, t)) (omega (arith, above, number, c.from.ensures)) (subst P c.in_default.is link)

pub nodes-preserved : goal.nodes-preserved
nodes-preserved g c =
    let i = c.nodes.invariant in
    let u = c.read_field.ensures.uses in
    let w = c.entry_at.ensures.uses in
    let from = c.args.from.page.0 in
    let n = c.nodes._n in
    let t = c.nodes-test.true in
    let same_count = u.count ∙ i.count in
    let reach = reach_on from n c.nodes.node.page.0 _ _ _ (near_on from n c.nodes.node.page.0 _ _ _ i.near u.touches) w.touches in
    let Q : ℕ → Type 0 = λ m. Touches (from ∷ []) m (g.P.Pages.state c.args.p.now).touched (g.P.Pages.state c.entry_at.new.p).touched in
    let R : ℕ → Type 0 = λ m. FitsPage m (address_of c.in-Some.next) in
    let S : Option Addr → Type 0 = λ o. IfSome o (λ a. FitsPage (g.P.Pages.state c.read_field.new.p).count (address_of a)) in
    record {
      told = c.entry_at.ensures.told ∙ c.read_field.ensures.told ∙ i.told;
      count = w.count ∙ same_count;
      room = omega (arith, i.room, u.room, w.room);
      stays = g.P.Pages.stays_on _ _ _ (g.P.Pages.stays_on _ _ _ i.stays u.same) w.same;
      faults = omega (arith, i.faults, c.read_field.ensures.cause.later, c.entry_at.ensures.cause.later);
      reach = let e : n ≡ n + 1 - 1 = omega arith in subst Q e reach;
      near = near_next from n c.in-Some.next.page.0 _ _ reach;
      place = subst R same_count (subst S c.in-Some.is c.in_ok-next.ensures.place);
      value = λ pages lob piece x rest search'.
          let node = address_of c.nodes.node in
          let target = sought 8 c.args.v.0 (x ∷ rest) in
          let al = i.value pages lob piece x rest search' in
          let left = 8 - n in
          let is0 = i.told ∙ search'.told' in
          let is = c.read_field.ensures.told ∙ is0 in
          let number = number_is _ _ _ pages lob piece x rest search' c.args.v.0 left node target al _ c.in_ok-number.number is0 c.in_ok-number.ensures.value in
          let behind = there _ _ _ pages lob piece x rest search' c.args.v.0 left node target al c.older_at.result c.older_at.ensures.head c.older_at.ensures.other in
          let link = entry_found c.in_ok-next.field-0 _ _ node.page c.older_at.result pages (first_of (map place_of al.rest)) (g.P.Pages.few c.read_field.new.p) (g.P.Pages.whole c.read_field.new.p pages is) is c.in_ok-next.ensures.value c.in_ok-next.ensures.place behind in
          let P : Option Addr → Type 0 = λ o. link_of o ≡ first_of (map place_of al.rest) in
          let above = c.if-number-from.false in
          along_next piece c.args.v.0 left (8 - (n + 1)) node (address_of c.in-Some.next) target al (omega (arith, t)) (omega (arith, above, number, c.from.ensures)) (subst P c.in-Some.is link);
    }

pub returns-clause-finds : goal.returns-clause-finds
returns-clause-finds g c = λ pages lob piece x rest search'.
    let al = c.nodes.invariant.value pages lob piece x rest search' in
    let t = c.nodes-test.false in
    along_more piece c.args.v.0 (8 - c.nodes._n) (address_of c.nodes.node) (sought 8 c.args.v.0 (x ∷ rest)) al (omega (arith, t))
