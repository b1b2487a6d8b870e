use Rattle.std.proofs.Common.{◌≡◌, ℕ, ◌<◌, ◌++◌, [], ◌∷◌, map, Option, sym, ◌∙◌, subst}
use Rattle.page_model.specs.Lists.{last_of}
use Rattle.engine_base.specs.Addresses.{address_of}
use Rattle.engine_base.specs.declared.addr.Addr.{Addr}
use Rattle.file_lists.specs.Links.{link_of}
use Rattle.file_lists.proofs.LinkLemmas.{handed_on}
use Rattle.page_space.proofs.MapLemmas.{at_told}
use Rattle.lob_model.specs.Pieces.{head_place}
use Rattle.lob_index.proofs.AnswerLemmas.{same_some, none_there}
use Rattle.lob_bytes.proofs.LastLemmas.{last_is, more_than_one, bare_heads, heads_of, last_may, data_below, data_is, len_may, data_may, data_uses, named_uses}
use Rattle.lob_bytes.proofs.last.read_last.Goals as goal

pub returns-in_err-node-clause-never : goal.returns-in_err-node-clause-never
returns-in_err-node-clause-never g c = λ pages lob ps x told first is.
    handed_on c.last_node.result _ _ (c.last_node.ensures.never pages (map head_place ps ++ x.place ∷ []) told (heads_of pages lob ps x is c.args.page.0 first) (last_may pages lob ps x is _ (g.P.Pages.whole c.args.p.now pages told).many)) c.in_err-node.was c.from_residual.ensures

pub returns-in_err-node-clause-plain : goal.returns-in_err-node-clause-plain
returns-in_err-node-clause-plain g c = λ pages lob told first is.
    handed_on c.last_node.result _ _ (c.last_node.ensures.never pages [] told (bare_heads pages lob c.args.page.0 first is) tt) c.in_err-node.was c.from_residual.ensures

pub returns-in_default-clause-value : goal.returns-in_default-clause-value
returns-in_default-clause-value g c = λ pages lob ps x told first is.
    let nodes = map head_place ps ++ x.place ∷ [] in
    let link = c.in_ok-node.ensures.value pages nodes told (heads_of pages lob ps x is c.args.page.0 first) in
    let K : Option Addr → Type 0 = λ o. link_of o ≡ last_of nodes in
    none_there x.place (subst K c.in_default.is link ∙ last_is (map head_place ps) x.place)

pub len-requires-clause-may : goal.len-requires-clause-may
len-requires-clause-may g c = let t = c.last_node.new.p in len_may g.P.Pages.stays_on c.args.page.0 0 c.args.p.now t t t c.requires.may c.last_node.ensures.uses

pub data_page-requires-clause-may : goal.data_page-requires-clause-may
data_page-requires-clause-may g c = let u = c.len.new.p in data_may g.P.Pages.stays_on c.args.page.0 c.in-Some.node.page.0 c.args.p.now c.last_node.new.p u u c.requires.may c.last_node.ensures.uses c.len.ensures.uses

pub returns-in_err-data-clause-never : goal.returns-in_err-data-clause-never
returns-in_err-data-clause-never g c = λ pages lob ps x told first is.
    let nodes = map head_place ps ++ x.place ∷ [] in
    let link = c.in_ok-node.ensures.value pages nodes told (heads_of pages lob ps x is c.args.page.0 first) in
    let K : Option Addr → Type 0 = λ o. link_of o ≡ last_of nodes in
    let same : address_of c.in-Some.node ≡ x.place = same_some _ x.place (subst K c.in-Some.is link ∙ last_is (map head_place ps) x.place) in
    let there = data_is pages lob ps x is (address_of c.in-Some.node) same in
    let whole = g.P.Pages.whole c.args.p.now pages told in
    let B : ℕ → ℕ → Type 0 = λ n k. n < k in
    let low = subst (λ (n : ℕ). B n (g.P.Pages.state c.len.new.p).count) (sym there) (subst (λ (k : ℕ). B x.page k) (whole.many ∙ sym c.last_node.ensures.uses.count ∙ sym c.len.ensures.uses.count) (data_below pages lob ps x is)) in
    handed_on c.data_page.result _ _ (at_told _ _ pages (c.len.ensures.told ∙ c.last_node.ensures.told ∙ told) c.data_page.ensures.never low) c.in_err-data.was c.from_residual-in_err-data.ensures

pub returns-in_err-data-clause-plain : goal.returns-in_err-data-clause-plain
returns-in_err-data-clause-plain g c = λ pages lob told first is.
    let link = c.in_ok-node.ensures.value pages [] told (bare_heads pages lob c.args.page.0 first is) in
    let K : Option Addr → Type 0 = λ o. link_of o ≡ last_of [] in
    none_there (address_of c.in-Some.node) (sym (subst K c.in-Some.is link))

pub returns-in_err-data-clause-uses : goal.returns-in_err-data-clause-uses
returns-in_err-data-clause-uses g c = data_uses g.P.Pages.stays_on c.args.page.0 c.in-Some.node.page.0 c.args.p.now c.last_node.new.p c.len.new.p c.data_page.new.p c.last_node.ensures.uses c.len.ensures.uses c.data_page.ensures.uses

pub returns-clause-value : goal.returns-clause-value
returns-clause-value g c = λ pages lob ps x told first is.
    let nodes = map head_place ps ++ x.place ∷ [] in
    let list = heads_of pages lob ps x is c.args.page.0 first in
    let link = c.in_ok-node.ensures.value pages nodes told list in
    let K : Option Addr → Type 0 = λ o. link_of o ≡ last_of nodes in
    let same : address_of c.in-Some.node ≡ x.place = same_some _ x.place (subst K c.in-Some.is link ∙ last_is (map head_place ps) x.place) in
    let told1 = c.last_node.ensures.told ∙ told in (
      same,
      at_told _ _ pages (c.len.ensures.told ∙ told1) c.in_ok-data.ensures.value ∙ data_is pages lob ps x is (address_of c.in-Some.node) same,
      more_than_one ps x c.in_ok-pieces.pieces (c.in_ok-pieces.ensures.value pages nodes told1 list),
    )

pub returns-clause-none : goal.returns-clause-none
returns-clause-none g c = λ pages lob told first is.
    let link = c.in_ok-node.ensures.value pages [] told (bare_heads pages lob c.args.page.0 first is) in
    let K : Option Addr → Type 0 = λ o. link_of o ≡ last_of [] in
    none_there (address_of c.in-Some.node) (sym (subst K c.in-Some.is link))

pub returns-clause-named : goal.returns-clause-named
returns-clause-named g c = named_uses g.P.Pages.stays_on c.args.page.0 c.in-Some.node.page.0 c.args.p.now c.last_node.new.p c.len.new.p c.data_page.new.p c.last_node.ensures.uses c.len.ensures.uses c.data_page.ensures.uses

pub returns-clause-uses : goal.returns-clause-uses
returns-clause-uses g c = data_uses g.P.Pages.stays_on c.args.page.0 c.in-Some.node.page.0 c.args.p.now c.last_node.new.p c.len.new.p c.data_page.new.p c.last_node.ensures.uses c.len.ensures.uses c.data_page.ensures.uses
