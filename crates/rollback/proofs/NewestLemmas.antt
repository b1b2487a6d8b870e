-- The newest record of a log, by the pointer to it.
use Rattle.std.proofs.Common.{◌≡◌, ◌≢◌, ℕ, ◌+◌, ◌*◌, ◌/◌, ◌%◌, ◌<◌, ◌≤◌, ◌^◌, Bool, true, false, cond, List, [], ◌∷◌, ◌++◌, Option, Some, None, Result, Ok, Err, IsOk, sym, ap, ap₂, subst, ◌∙◌, arith}
use Rattle.std.proofs.lemmas.Bool.{ne_eqb}
use Rattle.page_model.specs.Pages.{Pages, AreWhole, Address}
use Rattle.engine_base.specs.declared.fault.Fault.{Fault}
use Rattle.undo_model.specs.Data.{Part, pointer, led}
use Rattle.undo_model.specs.Bytes.{is_insert}
use Rattle.undo_model.specs.Reading.{is_place}
use Rattle.undo_model.specs.Logs.{node_of, nodes_in, records_of}
use Rattle.store_data.specs.Store.{Record, active, purging}
use Rattle.store_parts.specs.Appends.{AreUsed}
use Rattle.store_parts.specs.Shows.{record_of as shown_record}
use Rattle.undo_logs.proofs.PlaceOfLemmas.{found}
use Rattle.undo_logs.proofs.NeverLemmas.{place_of_record}
use Rattle.undo_logs.specs.Reads.{number_of, newest_pointer}
use Rattle.undo_records.specs.declared.ids.RollPtr.{RollPtr}
use Rattle.rollback.specs.Standing.{Scene}
use Rattle.rollback.proofs.LogLemmas.{ActiveAt}

-- ---- pointers

led_other : (n : ℕ) → n ≢ 0
    → led n ≡ Some (record { page = (n / 65_536) % 4_294_967_296; at = n % 65_536 })
led_other n other = ap (λ (b : Bool). cond b None
    (Some (record { page = (n / 65_536) % 4_294_967_296; at = n % 65_536 }))) (ne_eqb n 0 other)

abbrev some_address : ℕ → ℕ → Option Address
some_address n k = Some (record { page = n; at = k })

same_address : (page page' at at' : ℕ) → page ≡ page' → at ≡ at'
    → some_address page at ≡ some_address page' at'
same_address page page' at at' p a = ap₂ some_address p a

-- a pointer leads back to its place, which isn't in page 0
pointer_leads : (b : Bool) (a : Address) → a.page ≢ 0 → a.page < 4_294_967_296 → a.at < 65_536
    → led (pointer b a) ≡ Some a
pointer_leads true a other page at =
    led_other (2 ^ 55 + a.page * 65_536 + a.at) (λ e. no (omega (arith, e)))
    ∙ same_address _ _ _ _ (omega (arith, page, at)) (omega (arith, at))
  where
    no : 1 ≤ 0 → ⊥
    no h = absurd (omega arith)
pointer_leads false a other page at =
    led_other (0 + a.page * 65_536 + a.at) (λ e. other (omega (arith, e)))
    ∙ same_address _ _ _ _ (omega (arith, page, at)) (omega (arith, at))

-- ---- a record's page isn't page 0

used_front : (pages : Pages) (xs ys : List Address) → AreUsed pages (xs ++ ys)
    → AreUsed pages xs
used_front pages [] ys used = tt
used_front pages (x ∷ xs) ys used = (used.0, used.1, used_front pages xs ys used.2)

used_last : (pages : Pages) (xs : List Address) (y : Address) → AreUsed pages (xs ++ y ∷ [])
    → y.page ≢ 0
used_last pages [] y used = used.0
used_last pages (x ∷ xs) y used = used_last pages xs y used.2

used_at : (pages : Pages) (newer : List Part) (p : Part) (older : List Part)
    → AreUsed pages (nodes_in (newer ++ p ∷ older)) → p.page ≢ 0
used_at pages [] p older used = used_last pages (nodes_in older) (node_of p.page) used
used_at pages (n ∷ ns) p older used =
    used_at pages ns p older
    (used_front pages (nodes_in (ns ++ p ∷ older)) (node_of n.page ∷ []) used)

some_same : (m n : ℕ) → Some m ≡ Some n → m ≡ n
some_same m n e = cc e

module _ (s : Scene) (a : ActiveAt s) where
  newest_page : a.newest'.entry.at.page ≢ 0
  newest_page =
      let l = a.log in
      let n = a.newest' in
      let at = found s.pages l.page l.parts [] n.entry n.older a.room.stands.parts n.records in
      λ e. used_at s.pages at.newer at.part at.older
      (subst (λ (ps : List Part). AreUsed s.pages (nodes_in ps)) at.is a.room.room.used)
      (sym at.same_page ∙ e)

  -- the pointer that was answered leads to the newest record
  pub newest_leads : (roll : RollPtr) (o : Option RollPtr) → o ≡ Some roll
      → number_of o ≡ newest_pointer (records_of a.log) → led roll.0 ≡ Some a.newest'.entry.at
  newest_leads roll o is answered =
      let n = a.newest' in
      let e = n.entry in
      let here = a.there in
      let page = here.page in
      let within = here.within in
      let few = a.room.room.map.size.few in
      let same : roll.0 ≡ pointer (is_insert e.undo.body) e.at =
      some_same _ _ (sym (ap (λ (x : Option RollPtr). number_of x) is) ∙ answered ∙ ap newest_pointer n.records) in
      ap led same ∙ pointer_leads (is_insert e.undo.body) e.at newest_page
      (omega (arith, page, few)) (omega (arith, within))

  pub newest_some : {A : Type 0} (o : Option RollPtr) → o ≡ None
      → number_of o ≡ newest_pointer (records_of a.log) → A
  newest_some o is answered = absurd (some_not _
      (sym (ap (λ (x : Option RollPtr). number_of x) is) ∙ answered ∙ ap newest_pointer a.newest'.records))
    where
      some_not : (n : ℕ) → (let x : Option ℕ = None in x) ≡ Some n → ⊥
      some_not n e = cc

  pub newest_fits : (count : ℕ) → AreWhole s.pages count
      → is_place count a.newest'.entry.at.page a.newest'.entry.at.at ≡ true
  newest_fits count whole =
      subst (λ (n : ℕ). is_place n a.newest'.entry.at.page a.newest'.entry.at.at ≡ true) whole.many
      (place_of_record s.pages a.newest'.entry.at a.newest'.entry.undo _ a.there)

  pub not_purging : a.log.state ≢ purging
  not_purging e = absurd (let f : active ≡ purging = sym a.is_active ∙ e in cc)

  pub place_is : a.newest'.entry.at ≡ s.place
  place_is = ap (λ (e : Address × Record). e.0) a.newest'.shows

  pub undo_is : shown_record a.newest'.entry.undo ≡ s.undo
  undo_is = ap (λ (e : Address × Record). e.1) a.newest'.shows

pub same_place : (a b : Address) (n : ℕ) → led n ≡ Some a → led n ≡ Some b → a ≡ b
same_place a b n first second = same a b (sym first ∙ second)
  where
    same : (x y : Address) → Some x ≡ Some y → x ≡ y
    same x y is = cc is

pub ok_not : {A : Type 0} (r : Result A Fault) (e : Fault) → r ≡ Err e → IsOk r → ⊥
ok_not (Ok a) e is ok = cc
ok_not (Err f) e is ok = let no : true ≡ false = sym ok in cc
