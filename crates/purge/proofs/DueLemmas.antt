-- The record to purge next, by the pointer to it.
use Rattle.std.proofs.Common.{◌≡◌, ◌≢◌, ℕ, ◌+◌, ◌*◌, ◌/◌, ◌%◌, ◌<◌, ◌≤◌, ◌^◌, Bool, true, false, cond, List, [], ◌∷◌, Option, Some, None, refl, Result, Ok, Err, IsOk, sym, ap, ap₂, subst, ◌∙◌, arith}
use Rattle.std.proofs.lemmas.Bool.{ne_eqb}
use Rattle.page_model.specs.Pages.{Pages, AreWhole, Address}
use Rattle.page_model.specs.Lists.{or_null}
use Rattle.engine_base.specs.declared.fault.Fault.{Fault}
use Rattle.store_data.specs.Store.{Record, Log, Store}
use Rattle.undo_model.specs.Data.{Log as LogThere, pointer, led}
use Rattle.undo_model.specs.Bytes.{is_insert}
use Rattle.undo_model.specs.Reading.{is_place}
use Rattle.undo_model.specs.Rows.{RowPage}
use Rattle.undo_logs.specs.Reads.{PointsTo, IsDue, HasNext}
use Rattle.undo_logs.proofs.NeverLemmas.{place_of_record}
use Rattle.store_model.specs.Steps.{last_in}
use Rattle.purge.proofs.FirstLemmas.{FirstAt}
use Rattle.purge.proofs.LogLemmas.{DueIn, one, none, due_or}

led_other : (n : ℕ) → n ≢ 0
    → led n ≡ Some (record { page = (n / 65_536) % 4_294_967_296; at = n % 65_536 })
led_other n other = ap (λ (b : Bool). cond b None
    (Some (record { page = (n / 65_536) % 4_294_967_296; at = n % 65_536 }))) (ne_eqb n 0 other)

abbrev some_address : ℕ → ℕ → Option Address
some_address n k = Some (record { page = n; at = k })

same_address : (page page' at at' : ℕ) → page ≡ page' → at ≡ at'
    → some_address page at ≡ some_address page' at'
same_address page page' at at' p a = ap₂ some_address p a

-- a pointer leads back to its place, which isn't in page 0
pub pointer_leads : (b : Bool) (a : Address) → a.page ≢ 0 → a.page < 4_294_967_296 → a.at < 65_536
    → led (pointer b a) ≡ Some a
pointer_leads true a other page at =
    led_other (2 ^ 55 + a.page * 65_536 + a.at) (λ e. no (omega (arith, e)))
    ∙ same_address _ _ _ _ (omega (arith, page, at)) (omega (arith, at))
  where
    no : 1 ≤ 0 → ⊥
    no h = absurd (omega arith)
pointer_leads false a other page at =
    led_other (0 + a.page * 65_536 + a.at) (λ e. other (omega (arith, e)))
    ∙ same_address _ _ _ _ (omega (arith, page, at)) (omega (arith, at))

pub data Roll (pages : Pages) (l : LogThere) (records : List (Address × Record)) (o : Option ℕ)
    : Type 0 where
  nothing : last_in records ≡ [] → o ≡ None → Roll pages l records o
  leads_to : (d : DueIn pages l records) → (n : ℕ) → o ≡ Some n → led n ≡ Some d.entry.at
      → Roll pages l records o

-- what is answered for the record to purge next is none, or leads to it
pub roll_of : (there : List RowPage) (pages : Pages) (store : Store) (l : Log)
    → (f : FirstAt there pages store l) → (o : Option ℕ) → IsDue pages f.log.next o
    → Roll pages f.log l.records o
roll_of there pages store l f o is = elim (due_or there pages store l f) [
  | one d ↦ (
      let e = d.entry in
      let points : PointsTo pages e.at o =
      subst (λ (x : Option Address). PointsTo pages (or_null x) o) d.next is in
      let there' = d.there in
      let page = there'.page in
      let within = there'.within in
      let few = f.room.map.size.few in
      leads_to d (pointer (is_insert e.undo.body) e.at) (points.some e.undo _ d.there)
      (pointer_leads (is_insert e.undo.body) e.at d.other (omega (arith, page, few))
      (omega (arith, within)))
      )
  | none next gone ↦ nothing (ap last_in gone)
      (let points : PointsTo pages (or_null None) o =
      subst (λ (x : Option Address). PointsTo pages (or_null x) o) next is in points.none refl)
]

-- where one is due, it stands there
pub has_next : (there : List RowPage) (pages : Pages) (store : Store) (l : Log)
    → (f : FirstAt there pages store l) → HasNext pages f.log.next
has_next there pages store l f = elim (due_or there pages store l f) [
  | one d ↦ subst (HasNext pages) (sym d.next) (d.entry.undo, _, d.there)
  | none next gone ↦ subst (HasNext pages) (sym next) tt
]

pub due_fits : (pages : Pages) (count : ℕ) (l : LogThere) (records : List (Address × Record))
    → AreWhole pages count → (d : DueIn pages l records)
    → is_place count d.entry.at.page d.entry.at.at ≡ true
due_fits pages count l records whole d =
    subst (λ (n : ℕ). is_place n d.entry.at.page d.entry.at.at ≡ true) whole.many
    (place_of_record pages d.entry.at d.entry.undo _ d.there)

-- ---- answers

pub some_not : (n : ℕ) → (let o : Option ℕ = None in o) ≡ Some n → ⊥
some_not n e = cc

pub roll_leads : (x n : ℕ) (r : Option Address) → Some x ≡ Some n → led n ≡ r → led x ≡ r
roll_leads x n r e leads = ap led (same_number x n e) ∙ leads
  where
    same_number : (a b : ℕ) → Some a ≡ Some b → a ≡ b
    same_number a b is = cc is

pub same_place : (a b : Address) (n : ℕ) → led n ≡ Some a → led n ≡ Some b → a ≡ b
same_place a b n first second = same a b (sym first ∙ second)
  where
    same : (x y : Address) → Some x ≡ Some y → x ≡ y
    same x y is = cc is

pub ok_not : {A : Type 0} (r : Result A Fault) (e : Fault) → r ≡ Err e → IsOk r → ⊥
ok_not (Ok a) e is ok = cc
ok_not (Err f) e is ok = let no : true ≡ false = sym ok in cc

pub due_not : (es : List (Address × Record)) (u : Address × Record) → last_in es ≡ u ∷ []
    → last_in es ≢ []
due_not es u is gone = absurd (let e : u ∷ [] ≡ [] = sym is ∙ gone in cc)
