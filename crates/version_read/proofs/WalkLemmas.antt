-- A walk over pages, record by record.
use Rattle.std.proofs.Common.{◌≡◌, ℕ, suc, ◌==◌, List, true, false, refl, sym, ap, subst, ◌∙◌, true≢false}
use Rattle.std.specs.Prelude.{Option, Some, None, Result, Ok, Err, IfOk}
use Rattle.page_model.specs.Pages.{Pages, Address, AreWhole}
use Rattle.store_data.specs.Pieces.{Part}
use Rattle.store_data.specs.Store.{Record, Store}
use Rattle.undo_model.specs.Data.{led}
use Rattle.undo_model.specs.Reading.{is_place}
use Rattle.undo_logs.proofs.NeverLemmas.{place_of_record}
use Rattle.read_model.specs.Document.{Document, Sees}
use Rattle.read_model.specs.Flight.{Flight, Unpatch, Ready, IsFlight}
use Rattle.read_model.specs.Steps.{put, walk, step}
use Rattle.read_model.specs.OfStore.{document}
use Rattle.read_model.proofs.WalkLemmas.{walk_none, step_kept}
use Rattle.read_views.specs.Flights.{flight_of}
use Rattle.read_views.specs.declared.flight.Flight.{Flight as FlightThere}
use Rattle.read_views.specs.declared.flight.Phase.TheVariants.{Unpatch as UnpatchThere, Ready as ReadyThere}
use Rattle.version_read.specs.Next.{LeadsNowhere, IsReading, PutsNext, GoesOn, Does}
use Rattle.version_read.specs.Records.{StandsIn}
use Rattle.version_read.proofs.RecordLemmas.{records_stand, found_stands}
use Rattle.version_read.proofs.NextLemmas.{next_of_walk}

pub on_ok : {T E : Type 0} (r : Result T E) (P Q : T → Type 0) → ((x : T) → P x → Q x) → IfOk r P
    → IfOk r Q
on_ok (Ok x) P Q onto is = onto x is
on_ok (Err e) P Q onto is = tt

-- ---- where a read's walk leads a record fits

pub place_where_stands : (pages : Pages) (count : ℕ) (a : Address) (r : Record) → AreWhole pages count
    → StandsIn pages a r → is_place count a.page a.at ≡ true
place_where_stands pages count a r whole s =
    subst (λ (k : ℕ). is_place k a.page a.at ≡ true) whole.many
    (place_of_record pages a s.there s.previous s.stands)

pub walk_leads_there : (told : Option Pages) (pages : Pages) (store : Store) (d : ℕ) (sees : Sees)
    (shown : Option (List Part)) (f : Flight) (count roll : ℕ)
    → IsReading told pages store d sees shown f → f.phase ≡ Unpatch → f.cursor ≡ led roll
    → AreWhole pages count → LeadsNowhere count roll → ⊥
walk_leads_there told pages store d sees shown f count roll reading phase cursor whole nowhere =
    let n = next_of_walk sees (document store d) shown f reading.distinct phase reading.flight
    nowhere.a (cursor ∙ nowhere.leads) in
    let s = found_stands pages (document store d).records (records_stand pages store reading.is d)
    nowhere.a n.r n.found in
    true≢false (sym (place_where_stands pages count nowhere.a n.r whole s) ∙ nowhere.outside)

-- ---- one record

pub goes_on_put : (sees : Sees) (doc : Document) (shown : Option (List Part)) (a : Address)
    (old new : Flight) → old.cursor ≡ Some a → PutsNext sees doc shown a old new
    → GoesOn sees doc shown old new
goes_on_put sees doc shown a old new leads p =
    let found = p.found in
    let onto : (n : ℕ) → walk (suc n) doc old ≡ walk n doc (put p.r old) =
    λ n. rw (leads, found) refl in
    record {
      on = λ n. onto n ∙ ap (walk n doc) (sym p.is);
      kept = p.kept;
    }

pub goes_on_none : (sees : Sees) (doc : Document) (shown : Option (List Part)) (f : Flight)
    → f.cursor ≡ None → IsFlight sees doc shown f → GoesOn sees doc shown f f
goes_on_none sees doc shown f none kept = record {
  on = λ n. walk_none (suc n) doc f none ∙ sym (walk_none n doc f none);
  kept = kept;
}

-- ---- up to eight

-- what is left of a walk does from here what the whole one does
pub record IsOnWalk (sees : Sees) (doc : Document) (shown : Option (List Part)) (left : ℕ)
    (target f : Flight) : Type 0 where
  pub goes : target ≡ walk left doc f
  pub kept : IsFlight sees doc shown f

pub one_on : (sees : Sees) (doc : Document) (shown : Option (List Part)) (left less : ℕ)
    (target f g : Flight) → left ≡ suc less → IsOnWalk sees doc shown left target f
    → GoesOn sees doc shown f g → IsOnWalk sees doc shown less target g
one_on sees doc shown left less target f g fewer along on = record {
  goes = along.goes ∙ ap (λ (k : ℕ). walk k doc f) fewer ∙ on.on less;
  kept = on.kept;
}

unpatch_step : (sees : Sees) (doc : Document) (f : Flight) → f.phase ≡ Unpatch
    → step sees doc f ≡ walk 8 doc f
unpatch_step sees doc f phase = rw phase refl

pub walk_start : (sees : Sees) (doc : Document) (shown : Option (List Part)) (f : Flight)
    → f.phase ≡ Unpatch → IsFlight sees doc shown f
    → IsOnWalk sees doc shown 8 (step sees doc f) f
walk_start sees doc shown f phase kept = record {
  goes = unpatch_step sees doc f phase;
  kept = kept;
}

pub walk_ends : (told : Option Pages) (pages : Pages) (store : Store) (d : ℕ) (sees : Sees)
    (shown : Option (List Part)) (left : ℕ) (old f new : Flight)
    → IsReading told pages store d sees shown old → left ≡ 0
    → IsOnWalk sees (document store d) shown left (step sees (document store d) old) f
    → new ≡ walk 0 (document store d) f → Does sees (document store d) shown old new
walk_ends told pages store d sees shown left old f new reading none along ends =
    let doc = document store d in
    let is : new ≡ step sees doc old =
    ends ∙ sym (along.goes ∙ ap (λ (k : ℕ). walk k doc f) none) in
    record {
      is = is;
      kept = subst (λ (g : Flight). IsFlight sees doc shown g) (sym is)
          (step_kept sees doc shown old reading.distinct reading.flight);
    }

-- ---- the end of a walk

pub led_none : (n : ℕ) → (n == 0) ≡ true → led n ≡ None
led_none n is = rw is refl

pub ended_none : (doc : Document) (f : FlightThere) → f.phase ≡ UnpatchThere
    → (f.cursor.0 == 0) ≡ true
    → flight_of (record f { phase = ReadyThere }) ≡ walk 0 doc (flight_of f)
ended_none doc f phase none =
    let ready : flight_of (record f { phase = ReadyThere }) ≡ record (flight_of f) { phase = Ready } =
    rw phase refl in
    ready ∙ sym (walk_none 0 doc (flight_of f) (led_none f.cursor.0 none))

pub ended_some : (doc : Document) (f : FlightThere) → (f.cursor.0 == 0) ≡ false
    → flight_of f ≡ walk 0 doc (flight_of f)
ended_some doc f some = rw some refl

-- ---- a read that has come further

pub reading_on : (told now : Option Pages) (pages : Pages) (store : Store) (d : ℕ) (sees : Sees)
    (shown : Option (List Part)) (old f : Flight) → now ≡ told
    → IsReading told pages store d sees shown old → IsFlight sees (document store d) shown f
    → IsReading now pages store d sees shown f
reading_on told now pages store d sees shown old f same reading kept = record {
  told' = same ∙ reading.told';
  is = reading.is;
  distinct = reading.distinct;
  flight = kept;
}
