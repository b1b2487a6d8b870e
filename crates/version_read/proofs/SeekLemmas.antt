-- A search over pages, row by row.
use Rattle.std.proofs.Common.{◌≡◌, ◌⊎◌, inl, inr, ℕ, suc, List, true, false, refl, sym, ap, subst, ◌∙◌, true≢false}
use Rattle.std.specs.Prelude.{Option, Some, None}
use Rattle.page_model.specs.Pages.{Pages, Address, AreWhole}
use Rattle.store_data.specs.Pieces.{Part}
use Rattle.store_data.specs.Store.{Row, Record, Store}
use Rattle.store_model.specs.Undo.{record_at}
use Rattle.undo_model.specs.Data.{led}
use Rattle.undo_records.specs.declared.record_type.Row.{Row as RowThere}
use Rattle.read_model.specs.Document.{Document, Sees}
use Rattle.read_model.specs.Flight.{Phase, Flight, Seek, IsFlightIn, IsFlight, IsInChain, IsGone}
use Rattle.read_model.specs.Steps.{judging, seek, step}
use Rattle.read_model.specs.OfStore.{document}
use Rattle.read_model.proofs.SeekLemmas.{seek_seen}
use Rattle.read_model.proofs.WalkLemmas.{step_kept}
use Rattle.read_views.specs.Flights.{row_in, row_read}
use Rattle.version_read.specs.Next.{LeadsNowhere, IsReading, Does}
use Rattle.version_read.specs.Seeks.{begun, GoesBack, Finds}
use Rattle.version_read.specs.Records.{StandsIn}
use Rattle.version_read.proofs.RecordLemmas.{records_stand, found_stands}
use Rattle.version_read.proofs.NextLemmas.{next_of_seek}
use Rattle.version_read.proofs.WalkLemmas.{place_where_stands}

some_is : {A : Type 0} {x y : A} → Some x ≡ Some y → x ≡ y
some_is e = cc e

none_some : {A : Type 0} (o : Option A) (x : A) → o ≡ Some x → o ≡ None → ⊥
none_some o x some none = cc (some, none)

-- ---- the record that stands before a row which isn't seen

pub record Behind (pages : Pages) (sees : Sees) (doc : Document) (shown : Option (List Part))
    (row : Row) : Type 0 where
  pub a : Address
  pub leads : row.roll ≡ Some a
  pub r : Record
  pub found : record_at doc.records a ≡ Some r
  pub kept : IsFlight sees doc shown (judging r.before)
  pub stands : StandsIn pages a r

pub behind_row : (told : Option Pages) (pages : Pages) (store : Store) (d : ℕ) (sees : Sees)
    (shown : Option (List Part)) (row : Row)
    → IsReading told pages store d sees shown (judging row) → sees row.trx ≡ false
    → Behind pages sees (document store d) shown row
behind_row told pages store d sees shown row reading unseen =
    let n = next_of_seek sees (document store d) shown (judging row) reading.distinct refl
    reading.flight unseen in
    record {
      a = n.0;
      leads = n.1;
      r = n.2.r;
      found = n.2.found;
      kept = n.2.kept;
      stands = found_stands pages (document store d).records
          (records_stand pages store reading.is d) n.0 n.2.r n.2.found;
    }

pub seek_leads_there : (pages : Pages) (sees : Sees) (doc : Document) (shown : Option (List Part))
    (row : Row) (count roll : ℕ) → Behind pages sees doc shown row → row.roll ≡ led roll
    → AreWhole pages count → LeadsNowhere count roll → ⊥
seek_leads_there pages sees doc shown row count roll b same whole nowhere =
    let a : b.a ≡ nowhere.a = some_is (sym b.leads ∙ same ∙ nowhere.leads) in
    true≢false (sym (place_where_stands pages count nowhere.a b.r whole
    (subst (λ (x : Address). StandsIn pages x b.r) a b.stands)) ∙ nowhere.outside)

pub seek_leads_on : (pages : Pages) (sees : Sees) (doc : Document) (shown : Option (List Part))
    (row : Row) → Behind pages sees doc shown row → row.roll ≡ None → ⊥
seek_leads_on pages sees doc shown row b none = none_some row.roll b.a b.leads none

pub goes_back : (pages : Pages) (sees : Sees) (doc : Document) (shown : Option (List Part))
    (row before : Row) → sees row.trx ≡ false → (b : Behind pages sees doc shown row)
    → before ≡ b.r.before → GoesBack sees doc shown row before
goes_back pages sees doc shown row before unseen b is =
    let leads = b.leads in
    let found = b.found in
    let onto : (n : ℕ) → seek (suc n) sees doc row ≡ seek n sees doc b.r.before =
    λ n. rw (unseen, leads, found) refl in
    record {
      on = λ n. onto n ∙ ap (seek n sees doc) (sym is);
      kept = subst (λ (r : Row). IsFlight sees doc shown (judging r)) (sym is) b.kept;
    }

-- ---- up to eight rows

-- what is left of a search does from this row what the whole one does from the first
pub record IsOnSearch (sees : Sees) (doc : Document) (shown : Option (List Part)) (left : ℕ)
    (first row : Row) : Type 0 where
  pub goes : seek 8 sees doc first ≡ seek left sees doc row
  pub kept : IsFlight sees doc shown (judging row)

pub back_on : (sees : Sees) (doc : Document) (shown : Option (List Part)) (left less : ℕ)
    (first row before : Row) → left ≡ suc less → IsOnSearch sees doc shown left first row
    → GoesBack sees doc shown row before → IsOnSearch sees doc shown less first before
back_on sees doc shown left less first row before fewer along back = record {
  goes = along.goes ∙ ap (λ (k : ℕ). seek k sees doc row) fewer ∙ back.on less;
  kept = back.kept;
}

pub found_on : (sees : Sees) (doc : Document) (shown : Option (List Part)) (left : ℕ)
    (first row : Row) → IsOnSearch sees doc shown left first row → sees row.trx ≡ true
    → Finds sees doc first row
found_on sees doc shown left first row along seen = record {
  same = along.goes ∙ seek_seen left sees doc row seen ∙ sym (seek_seen 0 sees doc row seen);
}

pub stopped_on : (sees : Sees) (doc : Document) (shown : Option (List Part)) (left : ℕ)
    (first row : Row) → IsOnSearch sees doc shown left first row → left ≡ 0
    → Finds sees doc first row
stopped_on sees doc shown left first row along none = record {
  same = along.goes ∙ ap (λ (k : ℕ). seek k sees doc row) none;
}

-- ---- the whole event

-- of a read in Seek its row alone counts
row_alone : (sees : Sees) (doc : Document) (shown : Option (List Part)) (f : Flight) → f.phase ≡ Seek
    → IsFlight sees doc shown f → IsFlight sees doc shown (judging f.row)
row_alone sees doc shown f phase kept =
    by (subst (λ (p : Phase). IsFlightIn p sees doc shown f) phase kept)
  where
    by : IsInChain sees doc shown f ⊎ IsGone sees doc shown f
        → IsInChain sees doc shown (judging f.row) ⊎ IsGone sees doc shown (judging f.row)
    by (inl s) = inl (record {
      passed = s.passed;
      rest = s.rest;
      older = s.older;
      v = s.v;
      visible = s.visible;
      holds = s.holds;
      judged = s.judged;
    })
    by (inr s) = inr (record {
      above = s.above;
      older = s.older;
      v = s.v;
      visible = s.visible;
      holds = s.holds;
      seen = s.seen;
      state = s.state;
      nothing = s.nothing;
    })

pub record Begins (f : Flight) (row : Row) : Type 0 where
  pub phase : f.phase ≡ Seek
  pub row' : f.row ≡ row

pub begins : (next present : Option RowThere) (first : RowThere) (f : Flight) → f.phase ≡ Seek
    → f.row ≡ row_read next → ((r : RowThere) → next ≡ Some r → first ≡ r)
    → (next ≡ None → row_in first ≡ row_read present) → Begins (begun next present f) (row_in first)
begins None present first f phase row some none = record { phase = refl; row' = sym (none refl) }
begins (Some r) present first f phase row some none = record {
  phase = phase;
  row' = row ∙ sym (ap row_in (some r refl));
}

pub reading_row : (told : Option Pages) (pages : Pages) (store : Store) (d : ℕ) (sees : Sees)
    (shown : Option (List Part)) (f : Flight) (row : Row) → Begins f row
    → IsReading told pages store d sees shown f
    → IsReading told pages store d sees shown (judging row)
reading_row told pages store d sees shown f row b reading = record {
  told' = reading.told';
  is = reading.is;
  distinct = reading.distinct;
  flight = subst (λ (r : Row). IsFlight sees (document store d) shown (judging r)) b.row'
      (row_alone sees (document store d) shown f b.phase reading.flight);
}

seek_step : (sees : Sees) (doc : Document) (f : Flight) → f.phase ≡ Seek
    → step sees doc f ≡ seek 8 sees doc f.row
seek_step sees doc f phase = rw phase refl

pub seek_does : (told : Option Pages) (pages : Pages) (store : Store) (d : ℕ) (sees : Sees)
    (shown : Option (List Part)) (f new : Flight) (row end : Row) → Begins f row
    → IsReading told pages store d sees shown f
    → Finds sees (document store d) row end
    → new ≡ seek 0 sees (document store d) end → Does sees (document store d) shown f new
seek_does told pages store d sees shown f new row end b reading sought judged =
    let doc = document store d in
    let is : new ≡ step sees doc f =
    judged ∙ sym (seek_step sees doc f b.phase ∙ ap (seek 8 sees doc) b.row' ∙ sought.same) in
    record {
      is = is;
      kept = subst (λ (g : Flight). IsFlight sees doc shown g) (sym is)
          (step_kept sees doc shown f reading.distinct reading.flight);
    }
