use Rattle.std.proofs.Common.{◌≡◌, inl, inr, ℕ, ◌+◌, ◌<◌, None, [], ◌∷◌, ◌++◌, List, length, map, refl, sym, ap, subst, ◌∙◌, Option, arith}
use Rattle.page_model.specs.Pages.{Address, field}
use Rattle.page_model.specs.Lists.{last_of}
use Rattle.engine_base.specs.Addresses.{address_of}
use Rattle.engine_base.specs.declared.addr.Addr.{Addr}
use Rattle.file_lists.specs.Links.{link_of}
use Rattle.file_lists.proofs.LinkLemmas.{at_told, handed_on}
use Rattle.store_data.specs.Store.{Version}
use Rattle.lob_model.specs.Pieces.{place_of}
use Rattle.lob_model.specs.Changes.{with_pieces, piece}
use Rattle.lob_versions.proofs.PieceLemmas.{version_in, entry_found, entry_plain}
use Rattle.lob_index.proofs.AnswerLemmas.{same_some, none_there}
use Rattle.lob_versions.proofs.ReadLemmas.{may_node, may_node_again, used_node, used_node_again, used_both, named_node, page_below, oldest_link, ends, last_place}
use Rattle.lob_versions.proofs.drops.read_oldest.Goals as goal

pub read_field-requires-clause-may : goal.read_field-requires-clause-may
read_field-requires-clause-may g c =
    let t = c.entry_at.new.p in
    may_node g.P.Pages.stays_on c.args.head.page.0 c.in-Some.node.page.0 c.args.p.now t t t c.requires.may c.entry_at.ensures.uses

pub data_page-requires-clause-may : goal.data_page-requires-clause-may
data_page-requires-clause-may g c =
    let t = c.entry_at.new.p in
    let u = c.read_field.new.p in
    may_node_again g.P.Pages.stays_on c.args.head.page.0 c.in-Some.node.page.0 c.args.p.now t u u c.requires.may c.entry_at.ensures.uses c.read_field.ensures.uses

pub returns-in_err-number-clause-uses : goal.returns-in_err-number-clause-uses
returns-in_err-number-clause-uses g c =
    let t = c.entry_at.new.p in
    let u = c.read_field.new.p in
    used_node g.P.Pages.stays_on c.args.head.page.0 c.in-Some.node.page.0 c.args.p.now t u u c.entry_at.ensures.uses c.read_field.ensures.uses

pub returns-then-number-from-clause-uses : goal.returns-then-number-from-clause-uses
returns-then-number-from-clause-uses g c =
    let t = c.entry_at.new.p in
    let u = c.read_field.new.p in
    used_node g.P.Pages.stays_on c.args.head.page.0 c.in-Some.node.page.0 c.args.p.now t u u c.entry_at.ensures.uses c.read_field.ensures.uses

pub returns-in_err-page-clause-uses : goal.returns-in_err-page-clause-uses
returns-in_err-page-clause-uses g c =
    let t = c.entry_at.new.p in
    let u = c.read_field.new.p in
    used_node_again g.P.Pages.stays_on c.args.head.page.0 c.in-Some.node.page.0 c.args.p.now t u c.data_page.new.p c.entry_at.ensures.uses c.read_field.ensures.uses c.data_page.ensures.uses

pub returns-clause-uses : goal.returns-clause-uses
returns-clause-uses g c =
    let t = c.entry_at.new.p in
    let u = c.read_field.new.p in
    used_node_again g.P.Pages.stays_on c.args.head.page.0 c.in-Some.node.page.0 c.args.p.now t u c.data_page.new.p c.entry_at.ensures.uses c.read_field.ensures.uses c.data_page.ensures.uses

pub returns-in_err-node-clause-never : goal.returns-in_err-node-clause-never
returns-in_err-node-clause-never g c = λ pages l bs q cs told stands same.
    handed_on c.entry_at.result _ _ (entry_plain c.entry_at.result _ _ c.args.head.page.0 (c.args.head.at + 12 + 10) pages (last_of (map place_of q.older)) (g.P.Pages.whole c.args.p.now pages told) told c.entry_at.ensures.never (oldest_link pages l bs q cs _ stands same)) c.in_err-node.was c.from_residual.ensures

pub returns-in_default-clause-value : goal.returns-in_default-clause-value
returns-in_default-clause-value g c = λ pages l bs h ys x cs told stands same.
    let q = piece h (ys ++ x ∷ []) in
    let link = entry_found c.in_ok-node.field-0 _ _ c.args.head.page.0 (c.args.head.at + 12 + 10) pages (last_of (map place_of q.older)) (g.P.Pages.few c.args.p.now) (g.P.Pages.whole c.args.p.now pages told) told c.in_ok-node.ensures.value c.in_ok-node.ensures.place (oldest_link pages l bs q cs _ stands same) in
    let K : Option Addr → Type 0 = λ o. link_of o ≡ last_of (map place_of q.older) in
    none_there x.place (subst K c.in_default.is link ∙ last_place ys x)

pub returns-then-number-from-clause-value : goal.returns-then-number-from-clause-value
returns-then-number-from-clause-value g c = λ pages l bs h ys x cs told stands same.
    let q = piece h (ys ++ x ∷ []) in
    let version = version_in pages (with_pieces l (bs ++ q ∷ cs)) bs q cs stands refl (h ∷ ys) x [] refl in
    let link = entry_found c.in_ok-node.field-0 _ _ c.args.head.page.0 (c.args.head.at + 12 + 10) pages (last_of (map place_of q.older)) (g.P.Pages.few c.args.p.now) (g.P.Pages.whole c.args.p.now pages told) told c.in_ok-node.ensures.value c.in_ok-node.ensures.place (oldest_link pages l bs q cs _ stands same) in
    let K : Option Addr → Type 0 = λ o. link_of o ≡ last_of (map place_of q.older) in
    let node : address_of c.in-Some.node ≡ x.place = same_some _ x.place (subst K c.in-Some.is link ∙ last_place ys x) in
    let N : Address → Type 0 = λ a. c.in_ok-number.number ≡ field pages a.page (a.at + 56) 4 in
    let number : c.in_ok-number.number ≡ x.number = subst N node (at_told _ _ pages (c.entry_at.ensures.told ∙ told) c.in_ok-number.ensures.value) ∙ version.entry.number in
    let above = c.if-number-from.true in
    omega (arith, above, number, c.from.ensures)

pub returns-in_err-page-clause-never : goal.returns-in_err-page-clause-never
returns-in_err-page-clause-never g c = λ pages l bs q cs told stands same.
    let link = entry_found c.in_ok-node.field-0 _ _ c.args.head.page.0 (c.args.head.at + 12 + 10) pages (last_of (map place_of q.older)) (g.P.Pages.few c.args.p.now) (g.P.Pages.whole c.args.p.now pages told) told c.in_ok-node.ensures.value c.in_ok-node.ensures.place (oldest_link pages l bs q cs _ stands same) in
    let K : Option Addr → Type 0 = λ o. link_of o ≡ last_of (map place_of q.older) in
    let some = subst K c.in-Some.is link in
    elim (ends q.older) [
      | inl none ↦ none_there (address_of c.in-Some.node) (sym (some ∙ ap (λ (vs : List Version). last_of (map place_of vs)) none))
      | inr found ↦ (
          let x = found.1 in
          let lob = with_pieces l (bs ++ q ∷ cs) in
          let version = version_in pages lob bs q cs stands refl (q.head ∷ found.0) x [] (ap (λ (vs : List Version). q.head ∷ vs) found.2) in
          let node : address_of c.in-Some.node ≡ x.place = same_some _ x.place (some ∙ ap (λ (vs : List Version). last_of (map place_of vs)) found.2 ∙ last_place found.0 x) in
          let whole = g.P.Pages.whole c.args.p.now pages told in
          let E : Address → Type 0 = λ a. field pages a.page (a.at + 48) 4 ≡ x.page in
          let there = subst E (sym node) version.entry.page in
          let below : x.page < length pages = page_below pages lob x stands version.«data» in
          let B : ℕ → ℕ → Type 0 = λ n k. n < k in
          let low = subst (λ (n : ℕ). B n (g.P.Pages.state c.read_field.new.p).count) (sym there) (subst (λ (k : ℕ). B x.page k) (whole.many ∙ sym c.entry_at.ensures.uses.count ∙ sym c.read_field.ensures.uses.count) below) in
          handed_on c.data_page.result _ _ (at_told _ _ pages (c.read_field.ensures.told ∙ c.entry_at.ensures.told ∙ told) c.data_page.ensures.never low) c.in_err-page.was c.from_residual-in_err-page.ensures
          )
    ]

pub returns-clause-none : goal.returns-clause-none
returns-clause-none g c = λ pages l bs h cs told stands same.
    let link = entry_found c.in_ok-node.field-0 _ _ c.args.head.page.0 (c.args.head.at + 12 + 10) pages (last_of (map place_of (piece h []).older)) (g.P.Pages.few c.args.p.now) (g.P.Pages.whole c.args.p.now pages told) told c.in_ok-node.ensures.value c.in_ok-node.ensures.place (oldest_link pages l bs (piece h []) cs _ stands same) in
    let K : Option Addr → Type 0 = λ o. link_of o ≡ None in
    none_there (address_of c.in-Some.node) (sym (subst K c.in-Some.is link))

pub returns-clause-value : goal.returns-clause-value
returns-clause-value g c = λ pages l bs h ys x cs told stands same.
    let q = piece h (ys ++ x ∷ []) in
    let version = version_in pages (with_pieces l (bs ++ q ∷ cs)) bs q cs stands refl (h ∷ ys) x [] refl in
    let link = entry_found c.in_ok-node.field-0 _ _ c.args.head.page.0 (c.args.head.at + 12 + 10) pages (last_of (map place_of q.older)) (g.P.Pages.few c.args.p.now) (g.P.Pages.whole c.args.p.now pages told) told c.in_ok-node.ensures.value c.in_ok-node.ensures.place (oldest_link pages l bs q cs _ stands same) in
    let K : Option Addr → Type 0 = λ o. link_of o ≡ last_of (map place_of q.older) in
    let node : address_of c.in-Some.node ≡ x.place = same_some _ x.place (subst K c.in-Some.is link ∙ last_place ys x) in
    let told1 = c.entry_at.ensures.told ∙ told in
    let told2 = c.read_field.ensures.told ∙ told1 in
    let N : Address → Type 0 = λ a. c.in_ok-number.number ≡ field pages a.page (a.at + 56) 4 in
    let number : c.in_ok-number.number ≡ x.number = subst N node (at_told _ _ pages told1 c.in_ok-number.ensures.value) ∙ version.entry.number in
    let E : Address → Type 0 = λ a. c.in_ok-page.page.0 ≡ field pages a.page (a.at + 48) 4 in
    let below = c.if-number-from.false in
    (omega (arith, below, number, c.from.ensures), node, subst E node (at_told _ _ pages told2 c.in_ok-page.ensures.value) ∙ version.entry.page)

pub returns-clause-named : goal.returns-clause-named
returns-clause-named g c =
    let t = c.entry_at.new.p in
    let u = c.read_field.new.p in
    let v = c.data_page.new.p in
    let q = c.in-Some.node.page.0 in
    named_node g.P.Pages.stays_on c.args.head.page.0 q c.args.p.now t v v c.entry_at.ensures.uses (used_both g.P.Pages.stays_on q 0 t u v v c.read_field.ensures.uses c.data_page.ensures.uses)
