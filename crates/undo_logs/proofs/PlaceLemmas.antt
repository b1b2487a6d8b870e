-- Where a record goes: on the newest page, or on one that was added.
use Rattle.std.proofs.Common.{◌≡◌, ◌≢◌, inl, ℕ, ◌+◌, ◌≤◌, Bool, cond, List, [], ◌∷◌, ◌++◌, Some, refl, sym, ap, ◌∙◌, subst, arith}
use Rattle.std.proofs.lemmas.Bool.{eq-eqb}
use Rattle.page_model.specs.Pages.{Pages, Address}
use Rattle.page_model.specs.Lists.{IsList, last_of}
use Rattle.page_space.specs.Map.{IsUsed}
use Rattle.undo_model.specs.Data.{Entry, Part, Log}
use Rattle.undo_model.specs.Reading.{record_end}
use Rattle.undo_model.specs.Logs.{node_of, nodes_in, records_in, pages_base, end_field, IsLog, AreChained, AreParts, first_start, other_start}
use Rattle.undo_model.specs.LogSteps.{put_part}
use Rattle.undo_model.proofs.OptionLemmas.{some_some}
use Rattle.store_parts.specs.Appends.{AreUsed}
use Rattle.store_parts.specs.Appends.{CanAppend, newest_of, newest_page_of}
use Rattle.undo_logs.specs.Places.{IsPlaced}

pub last_added : (nodes : List Address) (a : Address) → last_of (nodes ++ a ∷ []) ≡ Some a
last_added [] a = refl
last_added (x ∷ []) a = refl
last_added (x ∷ y ∷ more) a = last_added (y ∷ more) a

-- the last node in the log's list of pages is the newest page's
pub newest_node : (pages : Pages) (log : ℕ) (parts : List Part) → AreParts pages log parts → last_of (nodes_in parts) ≡ Some (node_of (newest_of parts))
newest_node pages log [] are = absurd are
newest_node pages log (p ∷ older) are = last_added (nodes_in older) (node_of p.page)

-- ---- the newest page has room

abbrev entry_on : Entry → Part → Part
entry_on e p = record { page = p.page; records = e ∷ p.records }

abbrev alone : Entry → Part
alone e = record { page = e.at.page; records = e ∷ [] }

ListIn : Pages → ℕ → List Part → Type 0
ListIn pages page ps = IsList pages (pages_base page) (nodes_in ps)

ChainIn : Pages → List Part → Type 0
ChainIn pages ps = AreChained pages (records_in ps)

UsedIn : Pages → List Part → Type 0
UsedIn pages ps = AreUsed pages (nodes_in ps)

-- the nodes' pages are those of the parts
pub used_last : (pages : Pages) (nodes : List Address) (a : Address) → AreUsed pages (nodes ++ a ∷ []) → AreUsed pages nodes × (a.page ≢ 0) × IsUsed pages a.page
used_last pages [] a used = (tt, used.0, used.1)
used_last pages (x ∷ more) a used = let rest = used_last pages more a used.2 in ((used.0, used.1, rest.0), rest.1, rest.2)

-- in place: the newest page
placed_in : (pages : Pages) (l : Log) (size : ℕ) (parts : List Part) → l.parts ≡ parts → CanAppend l pages → end_field pages (newest_of parts) + size ≤ record_end
    → IsPlaced l size (record { page = newest_of parts; at = end_field pages (newest_of parts) }) pages pages
unfolding ListIn ChainIn UsedIn
placed_in pages l size [] are can fits = absurd (subst (AreParts pages l.page) are can.stands.parts)
placed_in pages l size (p ∷ []) are can fits =
    let log = can.stands in
    let parts : AreParts pages l.page (p ∷ []) = subst (AreParts pages l.page) are log.parts in
    let used : UsedIn pages (p ∷ []) = subst (UsedIn pages) are can.room.used in
    let list : ListIn pages l.page (p ∷ []) = subst (ListIn pages l.page) are log.list in
    let chain : ChainIn pages (p ∷ []) = subst (ChainIn pages) are log.chain in
    record {
      start = first_start;
      part = p;
      older = [];
      ready = record { active = can.active; state = log.state; trx = log.trx; commit = log.commit; next = log.next; list = list; part = parts.1; role = (parts.0, refl); chain = chain };
      place = refl;
      fits = fits;
      other = used.0;
      same = ap records_in (sym are);
      puts = λ e at. ap (put_part e) are ∙ ap (λ (b : Bool). cond b (entry_on e p ∷ []) (alone e ∷ p ∷ [])) (eq-eqb p.page e.at.page (sym (ap (λ (a : Address). a.page) at)));
      opens = inl (refl, sym (ap newest_of are));
    }
placed_in pages l size (p ∷ q ∷ older) are can fits =
    let log = can.stands in
    let parts : AreParts pages l.page (p ∷ q ∷ older) = subst (AreParts pages l.page) are log.parts in
    let used : UsedIn pages (p ∷ q ∷ older) = subst (UsedIn pages) are can.room.used in
    let list : ListIn pages l.page (p ∷ q ∷ older) = subst (ListIn pages l.page) are log.list in
    let chain : ChainIn pages (p ∷ q ∷ older) = subst (ChainIn pages) are log.chain in
    record {
      start = other_start;
      part = p;
      older = q ∷ older;
      ready = record { active = can.active; state = log.state; trx = log.trx; commit = log.commit; next = log.next; list = list; part = parts.0.part; role = (refl, parts.0.owner, parts.0.new, parts.1); chain = chain };
      place = refl;
      fits = fits;
      other = (used_last pages (nodes_in (q ∷ older)) (node_of p.page) used).1;
      same = ap records_in (sym are);
      puts = λ e at. ap (put_part e) are ∙ ap (λ (b : Bool). cond b (entry_on e p ∷ q ∷ older) (alone e ∷ p ∷ q ∷ older)) (eq-eqb p.page e.at.page (sym (ap (λ (a : Address). a.page) at)));
      opens = inl (refl, sym (ap newest_of are));
    }

-- a record that fits behind the newest page's end is placed there, and no page changes
pub placed_here : (pages : Pages) (l : Log) (size page end : ℕ) → CanAppend l pages → page ≡ newest_page_of l → end ≡ end_field pages page → end + size ≤ record_end
    → IsPlaced l size (record { page = page; at = end }) pages pages
placed_here pages l size page end can is is' fits =
    let e : end ≡ end_field pages (newest_page_of l) = is' ∙ ap (end_field pages) is in
    let P : ℕ → ℕ → Type 0 = λ p a. IsPlaced l size (let x : Address = record { page = p; at = a } in x) pages pages in
    let base : P (newest_page_of l) (end_field pages (newest_page_of l)) = placed_in pages l size l.parts refl can (omega (arith, e, fits)) in
    subst (λ (p : ℕ). P p end) (sym is) (subst (P (newest_page_of l)) (sym e) base)

-- the list's last node is that of the newest page
pub same_page : (pages : Pages) (l : Log) (page : ℕ) (a : Address) → l.page ≡ page → IsLog pages l
    → ((nodes : List Address) → IsList pages (pages_base page) nodes → Some a ≡ last_of nodes) → a.page ≡ newest_page_of l
same_page pages l page a is log last =
    let list : IsList pages (pages_base page) (nodes_in l.parts) = subst (λ (n : ℕ). IsList pages (pages_base n) (nodes_in l.parts)) is log.list in
    let e : Some a ≡ Some (node_of (newest_page_of l)) = last (nodes_in l.parts) list ∙ newest_node pages l.page l.parts log.parts in
    ap (λ (x : Address). x.page) (some_some a (node_of (newest_page_of l)) e)
