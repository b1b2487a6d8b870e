-- The walk through a page of a log, record by record, and the record at a place.
use Rattle.std.proofs.Common.{◌≡◌, ◌≢◌, inl, inr, ℕ, ◌+◌, ◌^◌, ◌<◌, ◌≤◌, ◌==◌, Bool, true, false, cond, List, [], ◌∷◌, ◌++◌, length, Option, Some, None, option_and_then, refl, sym, ap, ap₂, ◌∙◌, subst, arith}
use Rattle.std.proofs.lemmas.Bool.{cases_eq, eqb-true}
use Rattle.std.proofs.lemmas.List.{append_assoc}
use Rattle.page_model.specs.Pages.{Pages, Address, field, null_page}
use Rattle.page_model.specs.Lists.{or_null}
use Rattle.store_data.specs.Store.{active}
use Rattle.undo_model.specs.Data.{Record, Entry, Part, Log}
use Rattle.undo_model.specs.Bytes.{record_size}
use Rattle.undo_model.specs.Reading.{IsRecordAt, is_place}
use Rattle.undo_model.specs.Logs.{end_field, records_in, records_of, newest, next_field, IsDueIn, IsFilled, AreChained, IsPart, AreParts, IsLog, first_start, other_start}
use Rattle.undo_model.specs.LogSteps.{same_address, number_at, has_page}
use Rattle.undo_model.proofs.LogLemmas.{chained_rest}
use Rattle.undo_model.proofs.OptionLemmas.{and_true}
use Rattle.undo_logs.specs.Purged.{AreBelow, WalksTo, due_number}
use Rattle.undo_logs.proofs.AppendLemmas.{not_first}
use Rattle.undo_logs.proofs.ForwardLemmas.{filled_over, append_none}
use Rattle.undo_logs.proofs.PlaceOfLemmas.{AllOff, places_off, filled_rest, off_join, other_at, off_above, off_below, off_newer, off_older, parts_from, ends, same_here}
use Rattle.undo_logs.proofs.NeverLemmas.{place_of_record}
use Rattle.undo_logs.proofs.ReadLemmas.{next_of_state}
use Rattle.undo_logs.proofs.OwnerLemmas.{part_at}

-- ---- the front of the page

-- where the records of a part begin
record StartsAt (pages : Pages) (first : ℕ) (p : Part) : Type 0 where
  start : ℕ
  fills : IsPart pages start p
  here : p.page ≡ first → start ≡ first_start
  other : p.page ≢ first → start ≡ other_start

starts : (pages : Pages) (first : ℕ) (p : Part) (older : List Part) → AreParts pages first (p ∷ older) → StartsAt pages first p
starts pages first p [] are = record { start = first_start; fills = are.1; here = λ e. refl; other = λ far. absurd (far are.0) }
starts pages first p (q ∷ older) are =
    let r = are.0 in
    record { start = other_start; fills = r.part; here = λ e. absurd (not_first pages first p.page (q ∷ older) are.1 r.new e); other = λ far. refl }

-- the walk begins there
pub walk_begins : (pages : Pages) (l : Log) (a : Address) (start : ℕ) → IsLog pages l → has_page a.page l.parts ≡ true → (a.page ≡ l.page → start ≡ first_start) → (a.page ≢ l.page → start ≡ other_start) → WalksTo l a start pages
walk_begins pages l a start log has here other =
    let at = part_at a.page l.parts has in
    let are : AreParts pages l.page (at.newer ++ at.part ∷ at.older) = subst (AreParts pages l.page) at.is log.parts in
    let s = starts pages l.page at.part at.older (parts_from pages l.page at.newer at.part at.older are) in
    record {
      cut = record {
        stands = log;
        newer = at.newer;
        part = at.part;
        older = at.older;
        parts = at.is;
        same_page = at.same;
        start = s.start;
        fills = s.fills;
        behind = at.part.records;
        before = [];
        records = sym (append_none at.part.records);
        filled = by s at.same;
      };
      below = tt;
    }
  where
    by : {p : Part} → (s : StartsAt pages l.page p) → p.page ≡ a.page → start ≡ s.start
    by {p} s same = elim (cases_eq a.page l.page) [
      | inl e ↦ here e ∙ sym (s.here (same ∙ e))
      | inr far ↦ other far ∙ sym (s.other (λ e. far (sym same ∙ e)))
    ]

-- ---- one record further

-- the oldest of the records from a place on stands there
record OldestAt (page at end : ℕ) (rs : List Entry) : Type 0 where
  front : List Entry
  entry : Entry
  is : rs ≡ front ++ entry ∷ []
  same_page : entry.at.page ≡ page
  place : entry.at.at ≡ at

oldest_at : (page at end : ℕ) (rs : List Entry) → IsFilled page at end rs → at < end → OldestAt page at end rs
oldest_at page at end [] filled below = absurd (omega (arith, filled, below))
oldest_at page at end (x ∷ xs) filled below =
    let e = ends x xs in
    let r = filled_rest page at end e.front e.last [] (subst (IsFilled page at end) e.is filled) in
    record { front = e.front; entry = e.last; is = e.is; same_page = r.0; place = r.2 }

pub record IsNext (pages : Pages) (l : Log) (a : Address) (place : ℕ) : Type 0 where
  pub entry : Entry
  pub newer : List Entry
  pub older : List Entry
  pub is : records_of l ≡ newer ++ entry ∷ older
  pub same_page : entry.at.page ≡ a.page
  pub here : entry.at.at ≡ place
  pub stands : IsRecordAt pages entry.at entry.undo (newest older)
  pub goes_on : place < a.at → WalksTo l a (place + record_size entry.undo) pages

records_cut : (newer : List Part) (p : Part) (older : List Part) → records_in (newer ++ p ∷ older) ≡ records_in newer ++ (p.records ++ records_in older)
records_cut [] p older = refl
records_cut (n ∷ newer) p older = ap (λ (rs : List Entry). n.records ++ rs) (records_cut newer p older) ∙ sym (append_assoc n.records (records_in newer) (p.records ++ records_in older))

-- before the end of the page the walk stands at a record, and goes on behind it
pub walk_next : (pages : Pages) (l : Log) (a : Address) (place : ℕ) → WalksTo l a place pages → place < end_field pages a.page → IsNext pages l a place
walk_next pages l a place w low =
    let c = w.cut in
    let page = c.part.page in
    let below : place < end_field pages page = (let e = ap (end_field pages) c.same_page in omega (arith, e, low)) in
    let fills : IsFilled page c.start (end_field pages page) (c.behind ++ c.before) = (let f = c.fills in subst (IsFilled page c.start (end_field pages page)) c.records f.filled) in
    let o = oldest_at page place (end_field pages page) c.behind (filled_over page c.start place (end_field pages page) c.behind c.before fills c.filled) below in
    let e = o.entry in
    let all : c.part.records ≡ o.front ++ e ∷ c.before = c.records ∙ ap (λ (rs : List Entry). rs ++ c.before) o.is ∙ append_assoc o.front (e ∷ []) c.before in
    let cut : records_of l ≡ (records_in c.newer ++ o.front) ++ e ∷ (c.before ++ records_in c.older) =
    ap records_in c.parts ∙ records_cut c.newer c.part c.older ∙ ap (λ (rs : List Entry). records_in c.newer ++ (rs ++ records_in c.older)) all
    ∙ ap (λ (rs : List Entry). records_in c.newer ++ rs) (append_assoc o.front (e ∷ c.before) (records_in c.older)) ∙ sym (append_assoc (records_in c.newer) o.front (e ∷ (c.before ++ records_in c.older))) in
    record {
      entry = e;
      newer = records_in c.newer ++ o.front;
      older = c.before ++ records_in c.older;
      is = cut;
      same_page = o.same_page ∙ c.same_page;
      here = o.place;
      stands = (chained_rest pages (records_in c.newer ++ o.front) (e ∷ (c.before ++ records_in c.older)) (let st = c.stands in subst (AreChained pages) cut st.chain)).0;
      goes_on = λ before. record {
        cut = record {
          stands = c.stands;
          newer = c.newer;
          part = c.part;
          older = c.older;
          parts = c.parts;
          same_page = c.same_page;
          start = c.start;
          fills = c.fills;
          behind = o.front;
          before = e ∷ c.before;
          records = all;
          filled = (o.same_page, ap (λ (k : ℕ). k + record_size e.undo) o.place, subst (λ (k : ℕ). IsFilled page c.start k c.before) (sym o.place) c.filled);
        };
        below = (let h = o.place in omega (arith, h, before), w.below);
      };
    }

-- the length that is read there is the record's
pub size_there : (pages : Pages) (page place : ℕ) (b : Address) (r : Record) (previous : Address) → b.page ≡ page → b.at ≡ place → IsRecordAt pages b r previous → field pages page place 2 ≡ record_size r
size_there pages page place b r previous here at is = sym (ap₂ (λ (x y : ℕ). field pages x y 2) here at) ∙ is.size

-- ---- the number of the record at a place

number_off : (a : Address) (rs zs : List Entry) → AllOff a rs → number_at a (rs ++ zs) ≡ number_at a zs
number_off a [] zs off = refl
number_off a (r ∷ rs) zs off = ap (λ (b : Bool). cond b (Some r.undo.number) (number_at a (rs ++ zs))) off.0 ∙ number_off a rs zs off.1

-- none where none stands
number_none : (a : Address) (rs : List Entry) → AllOff a rs → number_at a rs ≡ None
number_none a rs off = ap (number_at a) (sym (append_none rs)) ∙ number_off a rs [] off

-- that of a record that no newer one stands at
pub number_here : (e : Entry) (newer older : List Entry) → AllOff e.at newer → number_at e.at (newer ++ e ∷ older) ≡ Some e.undo.number
number_here e newer older off = number_off e.at newer (e ∷ older) off ∙ ap (λ (b : Bool). cond b (Some e.undo.number) (number_at e.at older)) (same_here e.at)

below_off : (a : Address) (rs : List Entry) → AreBelow a.at rs → AllOff a rs
below_off a [] below = tt
below_off a (r ∷ rs) below = (other_at r.at a (λ e. no (let b = below.0 in omega (arith, b, e))), below_off a rs below.1)
  where
    no : 1 ≤ 0 → ⊥
    no x = absurd (omega arith)

-- past the place no record stands there
pub walk_past : (pages : Pages) (l : Log) (a : Address) (place : ℕ) → WalksTo l a place pages → a.at < place → number_at a (records_of l) ≡ None
walk_past pages l a place w past =
    let c = w.cut in
    let st = c.stands in
    let page = c.part.page in
    let are : AreParts pages l.page (c.newer ++ c.part ∷ c.older) = subst (AreParts pages l.page) c.parts st.parts in
    let fills : IsFilled page c.start (end_field pages page) (c.behind ++ c.before) = (let f = c.fills in subst (IsFilled page c.start (end_field pages page)) c.records f.filled) in
    let behind = off_above a page place (end_field pages page) c.behind (filled_over page c.start place (end_field pages page) c.behind c.before fills c.filled) past in
    let here : AllOff a c.part.records = subst (AllOff a) (sym c.records) (off_join a c.behind c.before behind (below_off a c.before w.below)) in
    ap (number_at a) (ap records_in c.parts ∙ records_cut c.newer c.part c.older) ∙ number_none a (records_in c.newer ++ (c.part.records ++ records_in c.older))
    (off_join a (records_in c.newer) (c.part.records ++ records_in c.older) (off_newer pages l.page a c.newer c.part c.older are (sym c.same_page))
    (off_join a c.part.records (records_in c.older) here (off_older pages l.page a c.part c.older (parts_from pages l.page c.newer c.part c.older are) (sym c.same_page))))

-- nor behind the page's used part
pub past_end : (pages : Pages) (l : Log) (a : Address) → IsLog pages l → has_page a.page l.parts ≡ true → end_field pages a.page ≤ a.at → number_at a (records_of l) ≡ None
past_end pages l a log has past =
    let at = part_at a.page l.parts has in
    let p = at.part in
    let are : AreParts pages l.page (at.newer ++ p ∷ at.older) = subst (AreParts pages l.page) at.is log.parts in
    let from = parts_from pages l.page at.newer p at.older are in
    let s = starts pages l.page p at.older from in
    let f = s.fills in
    let end : end_field pages p.page ≤ a.at = (let e = ap (end_field pages) at.same in omega (arith, e, past)) in
    ap (number_at a) (ap records_in at.is ∙ records_cut at.newer p at.older) ∙ number_none a (records_in at.newer ++ (p.records ++ records_in at.older))
    (off_join a (records_in at.newer) (p.records ++ records_in at.older) (off_newer pages l.page a at.newer p at.older are (sym at.same))
    (off_join a p.records (records_in at.older) (off_below a p.page s.start (end_field pages p.page) p.records f.filled end) (off_older pages l.page a p at.older from (sym at.same))))

same_true : (a b : Address) → same_address a b ≡ true → a ≡ b
same_true a b same = let s = and_true (a.page == b.page) (a.at == b.at) same in ap₂ (λ (x y : ℕ). let c : Address = record { page = x; at = y } in c) (eqb-true a.page b.page s.0) (eqb-true a.at b.at s.1)

-- nor where none may stand
pub not_place : (pages : Pages) (a : Address) (rs : List Entry) → AreChained pages rs → is_place (length pages) a.page a.at ≡ false → number_at a rs ≡ None
not_place pages a [] chain none = refl
not_place pages a (e ∷ older) chain none = by (same_address e.at a) refl (not_place pages a older chain.1 none)
  where
    by : (b : Bool) → same_address e.at a ≡ b → number_at a older ≡ None → cond b (Some e.undo.number) (number_at a older) ≡ None
    by false other rest = rest
    by true same rest = absurd (let t : true ≡ false = sym (subst (λ (x : Address). is_place (length pages) x.page x.at ≡ true) (same_true e.at a same) (place_of_record pages e.at e.undo (newest older) chain.0)) ∙ none in cc)

-- at the place the record has this number
pub record NumberIs (pages : Pages) (l : Log) (a : Address) : Type 0 where
  pub undo : Record
  pub previous : Address
  pub stands : IsRecordAt pages a undo previous
  pub number : number_at a (records_of l) ≡ Some undo.number

-- a record of a log has its number at its place
pub number_of : (pages : Pages) (l : Log) (a : Address) (newer : List Entry) (e : Entry) (older : List Entry) → IsLog pages l → records_of l ≡ newer ++ e ∷ older → e.at ≡ a → NumberIs pages l a
number_of pages l a newer e older log is here =
    let off = places_off pages l.page l.parts newer e older log.parts is in
    subst (NumberIs pages l) here (record {
      undo = e.undo;
      previous = newest older;
      stands = (chained_rest pages newer (e ∷ older) (subst (AreChained pages) is log.chain)).0;
      number = ap (number_at e.at) is ∙ number_here e newer older off.0;
    })

-- the record that the walk stands at has
pub number_next : (pages : Pages) (l : Log) (a : Address) → IsNext pages l a a.at → IsLog pages l → NumberIs pages l a
number_next pages l a n log =
    let here : n.entry.at ≡ a = ap₂ (λ (x y : ℕ). let c : Address = record { page = x; at = y } in c) n.same_page n.here in
    number_of pages l a n.newer n.entry n.older log n.is here

-- which is the one at the place itself, where the walk has come to no later one
pub walk_here : (pages : Pages) (l : Log) (a : Address) (place : ℕ) → WalksTo l a place pages → place ≡ a.at → a.at < end_field pages a.page → IsLog pages l → NumberIs pages l a
walk_here pages l a place w is low log = number_next pages l a (walk_next pages l a a.at (subst (λ (k : ℕ). WalksTo l a k pages) is w) low) log

-- ---- the record that is due

pub record DueIs (pages : Pages) (l : Log) (a : Address) : Type 0 where
  pub number : NumberIs pages l a
  pub due : due_number l ≡ Some (let u = number.undo in u.number)

-- a null address says that none is due
pub due_none : (pages : Pages) (l : Log) (a : Address) → IsLog pages l → l.state ≢ active → a ≡ next_field pages l.page → length pages < 2 ^ 32 → a.page ≡ null_page → due_number l ≡ None
due_none pages l a log state read few null = by l.next refl log.due (read ∙ next_of_state l.state (next_field pages l.page) l.next state log.next)
  where
    no : 1 ≤ 0 → ⊥
    no x = absurd (omega arith)

    by : (next : Option Address) → l.next ≡ next → IsDueIn next (records_of l) → a ≡ or_null next → due_number l ≡ None
    by None is has e = ap (λ (o : Option Address). option_and_then (λ (x : Address). number_at x (records_of l)) o) is
    by (Some b) is has e =
        let n = number_of pages l b has.newer has.entry has.older log has.is has.here in
        absurd (no (let s = n.stands in let t = s.page in let k = ap (λ (x : Address). x.page) e in omega (arith, t, few, null, k)))

-- any other one leads to the record that is
pub due_some : (pages : Pages) (l : Log) (a : Address) → IsLog pages l → l.state ≢ active → a ≡ next_field pages l.page → a.page ≢ null_page → DueIs pages l a
due_some pages l a log state read far = by l.next refl log.due (read ∙ next_of_state l.state (next_field pages l.page) l.next state log.next)
  where
    by : (next : Option Address) → l.next ≡ next → IsDueIn next (records_of l) → a ≡ or_null next → DueIs pages l a
    by None is has e = absurd (far (ap (λ (x : Address). x.page) e))
    by (Some b) is has e =
        let n = number_of pages l b has.newer has.entry has.older log has.is has.here in
        subst (DueIs pages l) (sym e) (record {
          number = n;
          due = ap (λ (o : Option Address). option_and_then (λ (x : Address). number_at x (records_of l)) o) is ∙ n.number;
        })
