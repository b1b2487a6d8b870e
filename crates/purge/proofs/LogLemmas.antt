-- The events that change the log alone.
use Rattle.std.proofs.Common.{◌≡◌, ◌≢◌, ℕ, ◌<◌, ◌^◌, Bool, List, [], ◌∷◌, ◌++◌, Option, Some, None, Result, Ok, Err, IfOk, OnOk, refl, sym, ap, subst, ◌∙◌, arith}
use Rattle.page_model.specs.Pages.{Pages, Address}
use Rattle.page_model.specs.Steps.{Becomes}
use Rattle.engine_base.specs.declared.fault.Fault.{Fault}
use Rattle.store_data.specs.Store.{LogState, active, committed, purging, Record, Log, Store}
use Rattle.undo_model.specs.Data.{Entry, Part, Log as LogThere}
use Rattle.undo_model.specs.Reading.{IsRecordAt}
use Rattle.undo_model.specs.Logs.{IsLog, AreParts, AreChained, HasPlace, IsDueIn, newest, node_of, nodes_in, records_of}
use Rattle.undo_model.specs.LogLists.{pages_in}
use Rattle.undo_model.specs.Rows.{RowPage}
use Rattle.undo_logs.proofs.PlaceOfLemmas.{down_there, found, places_off}
use Rattle.undo_logs.specs.Drops.{CanDrop, CanEnd, has_part}
use Rattle.undo_logs.specs.Changes.{with_pages}
use Rattle.store_model.specs.Steps.{last_in}
use Rattle.store_parts.specs.Shows.{log_of, entry_of, entries_of, due, due_in}
use Rattle.store_parts.specs.Appends.{AreUsed}
use Rattle.store_parts.specs.Logs.{ChangesOldest, PurgesLog}
use Rattle.purge.specs.Events.{due_page, made, goes_on}
use Rattle.store_steps.specs.Standing.{StandsOn}
use Rattle.purge.specs.Standing.{IsAt}
use Rattle.purge.proofs.FirstLemmas.{FirstAt, first_at}

-- ---- answers

pub on_told : {T : Type 0} (r : Result T Fault) (told : Option Pages) (P Q : Pages → Type 0)
    → ((new : Pages) → P new → Q new) → OnOk r (Becomes told P) → OnOk r (Becomes told Q)
on_told (Ok x) told P Q so is = (is.0, is.1, so is.0 is.2)
on_told (Err e) told P Q so is = tt

-- ---- the log in pages

pub at_first : (told : Option Pages) (log : ℕ) (there : List RowPage) (pages : Pages) (store : Store)
    (l : Log) (ls : List Log) → IsAt told log there pages store l ls → FirstAt there pages store l
at_first told log there pages store l ls at = first_at there pages store l ls at.stands at.first

pub page_is : (told : Option Pages) (log : ℕ) (there : List RowPage) (pages : Pages) (store : Store)
    (l : Log) (ls : List Log) → (at : IsAt told log there pages store l ls)
    → (at_first told log there pages store l ls at).log.page ≡ log
page_is told log there pages store l ls at =
    ap (λ (m : Log). m.page) (at_first told log there pages store l ls at).shows ∙ at.page

pub state_is : (told : Option Pages) (log : ℕ) (there : List RowPage) (pages : Pages) (store : Store)
    (l : Log) (ls : List Log) → (at : IsAt told log there pages store l ls)
    → (at_first told log there pages store l ls at).log.state ≡ l.state
state_is told log there pages store l ls at =
    ap (λ (m : Log). m.state) (at_first told log there pages store l ls at).shows

-- ---- the record that is due

pub last_append : (xs : List Entry) (e : Entry)
    → last_in (entries_of (xs ++ e ∷ [])) ≡ entry_of e ∷ []
last_append [] e = refl
last_append (x ∷ []) e = refl
last_append (x ∷ y ∷ ys) e = last_append (y ∷ ys) e

due_known : (s : LogState) (next : Option Address) (rs : List Entry) → s ≢ active
    → due_in s next rs ≡ due next rs
due_known active next rs not = absurd (not refl)
due_known committed next rs not = refl
due_known purging next rs not = refl

-- of a log that isn't active
pub record DueIn (pages : Pages) (l : LogThere) (records : List (Address × Record)) : Type 0
  where
    pub newer : List Entry
    pub entry : Entry
    pub older : List Entry
    pub cut : records_of l ≡ newer ++ entry ∷ older
    pub next : l.next ≡ Some entry.at
    pub last : last_in records ≡ entry_of entry ∷ []
    pub there : IsRecordAt pages entry.at entry.undo (newest older)
    pub other : entry.at.page ≢ 0

chained_at : (pages : Pages) (newer : List Entry) (e : Entry) (older : List Entry)
    → AreChained pages (newer ++ e ∷ older) → IsRecordAt pages e.at e.undo (newest older)
chained_at pages [] e older chain = chain.0
chained_at pages (n ∷ ns) e older chain = chained_at pages ns e older chain.1

used_front : (pages : Pages) (xs ys : List Address) → AreUsed pages (xs ++ ys)
    → AreUsed pages xs
used_front pages [] ys used = tt
used_front pages (x ∷ xs) ys used = (used.0, used.1, used_front pages xs ys used.2)

used_last : (pages : Pages) (xs : List Address) (y : Address) → AreUsed pages (xs ++ y ∷ [])
    → y.page ≢ 0
used_last pages [] y used = used.0
used_last pages (x ∷ xs) y used = used_last pages xs y used.2

used_at : (pages : Pages) (newer : List Part) (p : Part) (older : List Part)
    → AreUsed pages (nodes_in (newer ++ p ∷ older)) → p.page ≢ 0
used_at pages [] p older used = used_last pages (nodes_in older) (node_of p.page) used
used_at pages (n ∷ ns) p older used =
    used_at pages ns p older (used_front pages (nodes_in (ns ++ p ∷ older)) (node_of n.page ∷ []) used)

due_some : (pages : Pages) (l : LogThere) → IsLog pages l → l.state ≢ active → (a : Address)
    → l.next ≡ Some a → AreUsed pages (nodes_in l.parts) → DueIn pages l (log_of l).records
due_some pages l is state a next used =
    let has : HasPlace a (records_of l) =
    subst (λ (o : Option Address). IsDueIn o (records_of l)) next is.due in
    let rs = records_of l in
    let off = places_off pages l.page l.parts has.newer has.entry has.older is.parts has.is in
    let same : due_in l.state l.next rs ≡ has.newer ++ has.entry ∷ [] =
    due_known l.state l.next rs state
    ∙ ap (λ (o : Option Address). due o rs) (next ∙ ap (λ (b : Address). Some b) (sym has.here))
    ∙ ap (λ (es : List Entry). due (Some has.entry.at) es) has.is
    ∙ down_there has.newer has.entry has.older off.0 in
    record {
      newer = has.newer;
      entry = has.entry;
      older = has.older;
      cut = has.is;
      next = next ∙ ap (λ (b : Address). Some b) (sym has.here);
      last = ap (λ (es : List Entry). last_in (entries_of es)) same ∙ last_append has.newer has.entry;
      there = chained_at pages has.newer has.entry has.older
          (subst (AreChained pages) has.is is.chain);
      other = (let at = found pages l.page l.parts has.newer has.entry has.older is.parts has.is in
          λ e. used_at pages at.newer at.part at.older
          (subst (λ (ps : List Part). AreUsed pages (nodes_in ps)) at.is used)
          (sym at.same_page ∙ e));
    }

due_none : (l : LogThere) → l.state ≢ active → l.next ≡ None → (log_of l).records ≡ []
due_none l state next =
    ap entries_of (due_known l.state l.next (records_of l) state
    ∙ ap (λ (o : Option Address). due o (records_of l)) next)

-- there is one, or none
pub data IsDueOr (pages : Pages) (l : LogThere) (records : List (Address × Record)) : Type 0 where
  one : DueIn pages l records → IsDueOr pages l records
  none : l.next ≡ None → records ≡ [] → IsDueOr pages l records

pub due_or : (there : List RowPage) (pages : Pages) (store : Store) (x : Log)
    → (f : FirstAt there pages store x) → IsDueOr pages f.log x.records
due_or there pages store x f =
    subst (λ (y : Log). IsDueOr pages f.log y.records) f.shows (by f.log.next refl)
  where
    by : (o : Option Address) → f.log.next ≡ o → IsDueOr pages f.log (log_of f.log).records
    by None next = none next (due_none f.log f.state next)
    by (Some a) next = one (due_some pages f.log f.stands f.state a next f.room.used)

-- ---- its pages given back

data PartsAre (parts : List Part) : Type 0 where
  single : (p : Part) → parts ≡ p ∷ [] → PartsAre parts
  several : (p q : Part) (older : List Part) → parts ≡ p ∷ q ∷ older → PartsAre parts

parts_are : (pages : Pages) (first : ℕ) (parts : List Part) → AreParts pages first parts
    → PartsAre parts
parts_are pages first [] are = absurd are
parts_are pages first (p ∷ []) are = single p refl
parts_are pages first (p ∷ q ∷ older) are = several p q older refl

module _ (there : List RowPage) (pages : Pages) (store : Store) (l : Log)
    (f : FirstAt there pages store l) (few : store.commits < 2 ^ 64) (begun : l.state ≡ purging)
    (passed_all : l.records ≡ []) where
  can_drop : CanDrop f.log pages
  can_drop = record {
    stands = f.stands;
    begun = ap (λ (m : Log). m.state) f.shows ∙ begun;
    passed = elim (due_or there pages store l f) [
      | one d ↦ absurd (let e : [] ≡ entry_of d.entry ∷ [] = sym (ap last_in passed_all) ∙ d.last in cc)
      | none next gone ↦ next
    ];
    room = f.room;
  }

  can_end : (p : Part) → f.log.parts ≡ p ∷ [] → CanEnd f.log store.purged pages
  can_end p alone = record {
    drop = can_drop;
    part = p;
    alone = alone;
    behind = f.rest;
    list = f.list;
    counted = f.counted;
    fits = (let b = f.below in omega (arith, b, few));
  }

  pages_are : (parts : List Part) → f.log.parts ≡ parts → l.pages ≡ pages_in parts
  pages_are parts is = sym (ap (λ (m : Log). m.pages) f.shows) ∙ ap pages_in is

  pub page_given : (r : Result Bool Fault) (told : Option Pages)
      → ((newest next : Part) (older : List Part) → CanDrop f.log pages
      → f.log.parts ≡ newest ∷ next ∷ older
      → OnOk r (Becomes told (ChangesOldest (with_pages (pages_in (next ∷ older))) f.log pages)))
      → (CanEnd f.log store.purged pages
      → OnOk r (Becomes told (PurgesLog f.log store.purged pages)))
      → ((newest : Part) (older : List Part) → CanDrop f.log pages
      → f.log.parts ≡ newest ∷ older → IfOk r (λ b. b ≡ has_part older))
      → OnOk r (Becomes told (λ new. StandsOn there new (made (due_page l.pages) [] [] store)))
      × IfOk r (λ b. b ≡ goes_on (due_page l.pages))
  page_given r told drops purges left =
      let G : List ℕ → Type 0 = λ ns.
      OnOk r (Becomes told (λ new. StandsOn there new (made (due_page ns) [] [] store)))
      × IfOk r (λ b. b ≡ goes_on (due_page ns)) in
      elim (parts_are pages f.log.page f.log.parts f.stands.parts) [
        | single p is ↦ subst G (sym (pages_are (p ∷ []) is)) (
          on_told r told _ _ f.purged (purges (can_end p is)),
          left p [] can_drop is,
        )
        | several p q older is ↦ subst G (sym (pages_are (p ∷ q ∷ older) is)) (
          on_told r told _ _ (λ new ch. f.changed new (with_pages (pages_in (q ∷ older))) ch)
              (drops p q older can_drop is),
          left p (q ∷ older) can_drop is,
        )
      ]

  pub page_plain : {X : Type 0} → ((newest next : Part) (older : List Part) → CanDrop f.log pages
      → f.log.parts ≡ newest ∷ next ∷ older → X) → (CanEnd f.log store.purged pages → X) → X
  page_plain drops purges = elim (parts_are pages f.log.page f.log.parts f.stands.parts) [
    | single p is ↦ purges (can_end p is)
    | several p q older is ↦ drops p q older can_drop is
  ]
