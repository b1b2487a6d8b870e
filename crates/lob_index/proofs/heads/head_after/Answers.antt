use Rattle.std.proofs.Common.{◌≡◌, ℕ, ◌+◌, [], ◌∷◌, ◌++◌, map, refl, Option, Some, subst, ◌∙◌, arith}
use Rattle.page_model.specs.Steps.{Touches}
use Rattle.engine_base.specs.Addresses.{address_of}
use Rattle.engine_base.specs.declared.addr.Addr.{Addr}
use Rattle.file_lists.specs.Links.{link_of}
use Rattle.file_lists.proofs.LinkLemmas.{handed_on}
use Rattle.lob_model.specs.Pieces.{head_place}
use Rattle.lob_index.specs.Heads.{nth, turns, link_pages}
use Rattle.lob_index.proofs.ReachLemmas.{reach_from, reach_next, reach_may, reach_failed}
use Rattle.lob_index.proofs.HeadLemmas.{next_there, head_read, head_plain, link_fits, none_later}
use Rattle.lob_index.proofs.HonestLemmas.{honest_on, on_walk}
use Rattle.lob_index.proofs.heads.head_after.Goals as goal

pub heads-init : goal.heads-init
heads-init g c =
    let s = c.args.p.now in
    let k = c.args.k in
    let start : k ≡ k + 0 = omega arith in
    let R : ℕ → Type 0 = λ n. Touches (c.args.node.page.0 ∷ []) (turns n) (g.P.Pages.state s).touched (c.args.node.page.0 ∷ (g.P.Pages.state s).touched) in
    record {
      told = refl;
      count = refl;
      room = omega arith;
      stays = g.P.Pages.stays_still s;
      faults = omega arith;
      reach = subst R start (reach_from c.args.node.page.0 k (g.P.Pages.state s).touched);
      place = c.requires.node;
      value = λ pages lob is stands here. let V : ℕ → Type 0 = λ n. Some (address_of c.args.node) ≡ nth n (map head_place lob.pieces) in subst V start here;
    }

pub returns-in_default-clause-value : goal.returns-in_default-clause-value
returns-in_default-clause-value g c = λ pages lob is stands here.
    let heads = map head_place lob.pieces in
    let P : Option Addr → Type 0 = λ o. link_of o ≡ nth (c.args.k + c.heads.i) heads in
    none_later heads (c.args.k + c.heads.i) (c.args.k + c.args.n) (subst P c.in_default.is (c.heads.invariant.value pages lob is stands here)) (let t = c.heads-test.true in omega (arith, t))

pub head_at-requires-clause-may : goal.head_at-requires-clause-may
head_at-requires-clause-may g c =
    let P : Option Addr → Type 0 = λ o. Touches (c.args.node.page.0 ∷ []) (turns (c.args.k + c.heads.i)) (g.P.Pages.state c.args.p.now).touched (link_pages o ++ (g.P.Pages.state c.heads.p).touched) in
    reach_may c.args.node.page.0 (c.args.k + c.heads.i) c.in-Some.a.page.0 _ _ c.requires.may (subst P c.in-Some.is c.heads.invariant.reach)

pub returns-in_err-found-clause-never : goal.returns-in_err-found-clause-never
returns-in_err-found-clause-never g c = λ pages lob is stands here.
    let heads = map head_place lob.pieces in
    let i = c.args.k + c.heads.i in
    let a = address_of c.in-Some.a in
    let is' = c.heads.invariant.told ∙ is in
    let P : Option Addr → Type 0 = λ o. link_of o ≡ nth i heads in
    let there = subst P c.in-Some.is (c.heads.invariant.value pages lob is stands here) in
    handed_on c.head_at.result _ _ (head_plain c.head_at.result _ _ a.page (a.at + 6) (i + 1) a.page pages (nth (i + 1) heads) (g.P.Pages.whole c.heads.p pages is') is' c.head_at.ensures.never (next_there pages lob i a stands there)) c.in_err-found.was c.from_residual.ensures

pub returns-in_err-found-clause-uses : goal.returns-in_err-found-clause-uses
returns-in_err-found-clause-uses g c =
    let i = c.heads.invariant in
    let P : Option Addr → Type 0 = λ o. Touches (c.args.node.page.0 ∷ []) (turns (c.args.k + c.heads.i)) (g.P.Pages.state c.args.p.now).touched (link_pages o ++ (g.P.Pages.state c.heads.p).touched) in
    reach_failed g.P.Pages.stays_on c.args.node.page.0 (c.args.k + c.heads.i) c.in-Some.a.page.0 _ _ _ i.count i.room i.stays (subst P c.in-Some.is i.reach) c.head_at.ensures.uses

pub heads-preserved : goal.heads-preserved
heads-preserved g c =
    let i = c.heads.invariant in
    let k = c.args.k + c.heads.i in
    let a = address_of c.in-Some.a in
    let call = c.head_at.ensures in
    let P : Option Addr → Type 0 = λ o. Touches (c.args.node.page.0 ∷ []) (turns k) (g.P.Pages.state c.args.p.now).touched (link_pages o ++ (g.P.Pages.state c.heads.p).touched) in
    let further : k + 1 ≡ c.args.k + (c.heads.i + 1) = omega arith in
    let R : ℕ → Type 0 = λ n. Touches (c.args.node.page.0 ∷ []) (turns n) (g.P.Pages.state c.args.p.now).touched (link_pages c.in_ok-found.found ++ (g.P.Pages.state c.head_at.new.p).touched) in
    record {
      told = call.told ∙ i.told;
      count = call.uses.count ∙ i.count;
      room = omega (arith, i.room, call.uses.room);
      stays = g.P.Pages.stays_on _ _ _ i.stays call.uses.same;
      faults = omega (arith, i.faults, call.cause.later);
      reach = subst R further (reach_next c.args.node.page.0 _ k a.page _ _ _ c.in_ok-found.found (subst P c.in-Some.is i.reach) call.uses.touches c.in_ok-found.ensures.place);
      place = link_fits c.in_ok-found.found _ _ (k + 1) a.page i.count c.in_ok-found.ensures.place;
      value = λ pages lob is stands here.
          let heads = map head_place lob.pieces in
          let is' = i.told ∙ is in
          let Q : Option Addr → Type 0 = λ o. link_of o ≡ nth k heads in
          let there = subst Q c.in-Some.is (i.value pages lob is stands here) in
          let V : ℕ → Type 0 = λ n. link_of c.in_ok-found.found ≡ nth n heads in
          subst V further (head_read c.in_ok-found.found _ _ a.page (a.at + 6) (k + 1) a.page pages (nth (k + 1) heads) (g.P.Pages.few c.heads.p) (g.P.Pages.whole c.heads.p pages is') is' c.in_ok-found.ensures.value c.in_ok-found.ensures.place (next_there pages lob k a stands there));
    }

pub returns-in_err-found-clause-honest : goal.returns-in_err-found-clause-honest
returns-in_err-found-clause-honest g c =
    let a = c.in-Some.a in
    honest_on _ _ c.head_at.result _ _ (on_walk _ _ _ _ a.page.0 (a.at + 6) (c.args.k + c.heads.i + 1) a.page.0 c.heads.invariant.told c.heads.invariant.count) c.head_at.ensures.honest c.in_err-found.was c.from_residual.ensures
