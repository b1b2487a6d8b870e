use Rattle.std.proofs.Common.{◌≡◌, ℕ, ◌+◌, ◌<◌, Some, [], ◌∷◌, ◌++◌, length, refl, sym, subst, ◌∙◌, Option}
use Rattle.page_model.specs.Pages.{Address, field}
use Rattle.engine_base.specs.Addresses.{address_of}
use Rattle.engine_base.specs.declared.addr.Addr.{Addr}
use Rattle.file_lists.specs.Links.{link_of}
use Rattle.file_lists.proofs.LinkLemmas.{at_told, handed_on}
use Rattle.lob_model.specs.Changes.{with_pieces, piece}
use Rattle.lob_pages.specs.Entries.{IsEntryAt}
use Rattle.lob_versions.proofs.PieceLemmas.{version_in, entry_found, entry_plain}
use Rattle.lob_index.proofs.AnswerLemmas.{same_some, none_there}
use Rattle.lob_versions.proofs.ReadLemmas.{may_again, may_node, used_both, used_node, named_node, page_below, newest_link}
use Rattle.lob_versions.proofs.pops.read_newest.Goals as goal

pub data_page-requires-clause-may : goal.data_page-requires-clause-may
data_page-requires-clause-may g c = may_again g.P.Pages.stays_on c.args.head.page.0 0 c.args.p.now c.entry_at.new.p c.entry_at.new.p c.entry_at.new.p c.requires.may c.entry_at.ensures.uses

pub read_entry-requires-clause-may : goal.read_entry-requires-clause-may
read_entry-requires-clause-may g c =
    let s = c.args.p.now in
    let t = c.entry_at.new.p in
    let u = c.data_page.new.p in
    may_node g.P.Pages.stays_on c.args.head.page.0 c.in-Some.node.page.0 s u u u c.requires.may (used_both g.P.Pages.stays_on c.args.head.page.0 0 s t u u c.entry_at.ensures.uses c.data_page.ensures.uses)

pub returns-in_err-fields-clause-uses : goal.returns-in_err-fields-clause-uses
returns-in_err-fields-clause-uses g c =
    let s = c.args.p.now in
    let t = c.entry_at.new.p in
    let u = c.data_page.new.p in
    let v = c.read_entry.new.p in
    used_node g.P.Pages.stays_on c.args.head.page.0 c.in-Some.node.page.0 s u v v (used_both g.P.Pages.stays_on c.args.head.page.0 0 s t u u c.entry_at.ensures.uses c.data_page.ensures.uses) c.read_entry.ensures.uses

pub returns-clause-uses : goal.returns-clause-uses
returns-clause-uses g c =
    let s = c.args.p.now in
    let t = c.entry_at.new.p in
    let u = c.data_page.new.p in
    let v = c.read_entry.new.p in
    used_node g.P.Pages.stays_on c.args.head.page.0 c.in-Some.node.page.0 s u v v (used_both g.P.Pages.stays_on c.args.head.page.0 0 s t u u c.entry_at.ensures.uses c.data_page.ensures.uses) c.read_entry.ensures.uses

pub returns-in_err-node-clause-never : goal.returns-in_err-node-clause-never
returns-in_err-node-clause-never g c = λ pages l bs h x more cs told stands same.
    handed_on c.entry_at.result _ _ (entry_plain c.entry_at.result _ _ c.args.head.page.0 (c.args.head.at + 12 + 4) pages (Some x.place) (g.P.Pages.whole c.args.p.now pages told) told c.entry_at.ensures.never (newest_link pages l bs h x more cs _ stands same)) c.in_err-node.was c.from_residual.ensures

pub returns-in_default-clause-never : goal.returns-in_default-clause-never
returns-in_default-clause-never g c = λ pages l bs h x more cs told stands same.
    let link = entry_found c.in_ok-node.field-0 _ _ c.args.head.page.0 (c.args.head.at + 12 + 4) pages (Some x.place) (g.P.Pages.few c.args.p.now) (g.P.Pages.whole c.args.p.now pages told) told c.in_ok-node.ensures.value c.in_ok-node.ensures.place (newest_link pages l bs h x more cs _ stands same) in
    let K : Option Addr → Type 0 = λ o. link_of o ≡ Some x.place in
    none_there x.place (subst K c.in_default.is link)

pub returns-in_err-page-clause-never : goal.returns-in_err-page-clause-never
returns-in_err-page-clause-never g c = λ pages l bs h x more cs told stands same.
    let lob = with_pieces l (bs ++ piece h (x ∷ more) ∷ cs) in
    let version = version_in pages lob bs (piece h (x ∷ more)) cs stands refl [] h (x ∷ more) refl in
    let whole = g.P.Pages.whole c.args.p.now pages told in
    let E : Address → Type 0 = λ a. field pages a.page (a.at + 48) 4 ≡ h.page in
    let there : field pages c.args.head.page.0 (c.args.head.at + 48) 4 ≡ h.page = subst E same version.entry.page in
    let below : h.page < length pages = page_below pages lob h stands version.«data» in
    let B : ℕ → ℕ → Type 0 = λ n k. n < k in
    let low = subst (λ (n : ℕ). B n (g.P.Pages.state c.entry_at.new.p).count) (sym there) (subst (λ (k : ℕ). B h.page k) (whole.many ∙ sym c.entry_at.ensures.uses.count) below) in
    handed_on c.data_page.result _ _ (at_told _ _ pages (c.entry_at.ensures.told ∙ told) c.data_page.ensures.never low) c.in_err-page.was c.from_residual-in_err-page.ensures

pub returns-clause-value : goal.returns-clause-value
returns-clause-value g c = λ pages l bs h x more cs told stands same.
    let lob = with_pieces l (bs ++ piece h (x ∷ more) ∷ cs) in
    let version = version_in pages lob bs (piece h (x ∷ more)) cs stands refl [] h (x ∷ more) refl in
    let link = entry_found c.in_ok-node.field-0 _ _ c.args.head.page.0 (c.args.head.at + 12 + 4) pages (Some x.place) (g.P.Pages.few c.args.p.now) (g.P.Pages.whole c.args.p.now pages told) told c.in_ok-node.ensures.value c.in_ok-node.ensures.place (newest_link pages l bs h x more cs _ stands same) in
    let K : Option Addr → Type 0 = λ o. link_of o ≡ Some x.place in
    let node : address_of c.in-Some.node ≡ x.place = same_some _ x.place (subst K c.in-Some.is link) in
    let told1 = c.entry_at.ensures.told ∙ told in
    let told2 = c.data_page.ensures.told ∙ told1 in
    let E : Address → Type 0 = λ a. field pages a.page (a.at + 48) 4 ≡ h.page in
    let R : Address → Type 0 = λ a. IsEntryAt pages a c.in_ok-fields.fields in
    record {
      node = node;
      page = at_told _ _ pages told1 c.in_ok-page.ensures.value ∙ subst E same version.entry.page;
      fields = subst R node (at_told _ _ pages told2 c.in_ok-fields.ensures.value);
    }

pub returns-clause-named : goal.returns-clause-named
returns-clause-named g c =
    let s = c.args.p.now in
    let t = c.entry_at.new.p in
    let u = c.data_page.new.p in
    let v = c.read_entry.new.p in
    named_node g.P.Pages.stays_on c.args.head.page.0 c.in-Some.node.page.0 s u v v (used_both g.P.Pages.stays_on c.args.head.page.0 0 s t u u c.entry_at.ensures.uses c.data_page.ensures.uses) c.read_entry.ensures.uses
