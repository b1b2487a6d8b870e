-- The version of a LOB raised, with the record of the change and its row.
use Rattle.std.proofs.Common.{◌≡◌, ℕ, suc, ◌+◌, ◌≤◌, List, [], ◌∷◌, Option, Some, ap, subst, ◌∙◌, arith}
use Rattle.page_model.specs.Pages.{Pages}
use Rattle.store_data.specs.Store.{versioned, Row, Version, Piece, Lob, Log, Store}
use Rattle.store_data.specs.Logs.{with_record}
use Rattle.lob_model.specs.Pieces.{IsFalling, AreFalling, piece_versions}
use Rattle.lob_pages.specs.First.{HasVersion}
use Rattle.undo_model.specs.Rows.{RowPage}
use Rattle.store_model.specs.Lobs.{lob_of}
use Rattle.store_model.specs.History.{row_before}
use Rattle.store_model.specs.Steps.{on_log, on_lob, on_lobs, at_version, log_of}
use Rattle.store_model.specs.Events.{record_of, with_change, raised_row, version_begun}
use Rattle.store_model.proofs.ConsistentLemmas.{version_consistent}
use Rattle.store_parts.specs.Stored.{row_pages}
use Rattle.row_dir.specs.declared.dir.RowDir.{RowDir}
use Rattle.store_steps.specs.Standing.{StandsOn}
use Rattle.store_steps.proofs.LobLemmas.{LobAt, lob_at}
use Rattle.transactions.specs.Changes.{Changes, plan_by, changed}
use Rattle.transactions.specs.Plans.{PlansChange, listed}
use Rattle.transactions.proofs.PlanLemmas.{listed_consistent, may_change}
use Rattle.lob_updates.specs.Plans.{MayPlan}
use Rattle.lob_updates.proofs.PlanLemmas.{lob_stands}

falling_to : (a b : ℕ) (xs : List Version) → a ≤ b → IsFalling a xs → IsFalling b xs
falling_to a b [] up are = tt
falling_to a b (x ∷ xs) up are = (let l = are.0 in omega (arith, l, up), are.1)

falling_up : (a b : ℕ) (ps : List Piece) → a ≤ b → AreFalling a ps → AreFalling b ps
falling_up a b [] up are = tt
falling_up a b (p ∷ ps) up are =
    (falling_to a b (piece_versions p) up are.0, falling_up a b ps up are.1)

pub record RaisedAt (there : List RowPage) (mid : Pages) (store : Store) (page v : ℕ) : Type 0 where
  pub lob : Lob
  pub at : LobAt there mid store page lob
  pub falling : AreFalling (v + 1) lob.pieces

module _ (told : Option Pages) (trx log n d : ℕ) (dir : RowDir) (reserved : ℕ)
    (there : List RowPage) (pages : Pages) (store : Store) (l : Log)
    (may : MayPlan told trx log n d dir reserved there pages store l) (b after : Row)
    (e : b ≡ row_before store d) (ks : ℕ) (touched : List ℕ) (dir' : RowDir) (mid : Pages)
    (ch : Changes l (plan_by trx n d) b after (versioned ks touched) dir' store mid)
    (page v : ℕ) (first : page ≡ b.lob.page) (next : v ≡ suc b.lob.version) where
  abbrev pub mid_store : Store
  mid_store = changed (plan_by trx n d ch.place) b after (versioned ks touched) ch.log_pages
      (row_pages ch.there) store

  -- where the change is recorded, the LOB stands as before
  pub raised_at : RaisedAt ch.there mid mid_store page v
  raised_at =
      let all = (let a = may.at in a.consistent) in
      let m = lob_stands store d all may.live' in
      let same : page ≡ (row_before store d).lob.page =
      first ∙ ap (λ (r : Row). r.lob.page) e in
      let found : lob_of store.lobs page ≡ Some m.0 =
      ap (lob_of store.lobs) same ∙ m.1 in
      let at = lob_at ch.there mid mid_store page m.0 ch.stands found in
      let number = ((all.versions d).0 may.live' m.0 m.1).0 in
      let number' : v ≡ suc (row_before store d).lob.version =
      next ∙ ap (λ (r : Row). suc r.lob.version) e in
      record {
        lob = m.0;
        at = at;
        falling = falling_up (m.0.version + 1) (v + 1) m.0.pieces (omega (arith, number, number'))
            (let s = at.stands in let h = s.shape in h.falling);
      }

  -- and the store is the one with the version raised
  pub raise_made : (is : (let p = plan_by trx n d ch.place in
      let x : Row = record after { trx = p.trx; roll = Some p.place } in x)
      ≡ raised_row (plan_by trx n d ch.place) b)
      → (new : Pages) → HasVersion v raised_at.lob mid new
      → PlansChange l (plan_by trx n d) (versioned ks touched)
      (λ plan. version_begun plan ks touched) dir' store new
  raise_made is new has =
      let p = plan_by trx n d ch.place in
      let rows = row_pages ch.there in
      let changed' = (let a = raised_at.at in a.changed new (at_version v) has.stands has.keeps) in
      let S : ℕ → ℕ → Row → Row → Type 0 = λ page v row b. StandsOn ch.there new
      (listed trx ch.log_pages rows (on_lobs (on_lob page (at_version v))
      (with_change p row b (versioned ks touched) store))) in
      let one : S page v (raised_row p b) b = subst (λ (r : Row). S page v r b) is changed' in
      let two : S b.lob.page v (raised_row p b) b =
      subst (λ (k : ℕ). S k v (raised_row p b) b) first one in
      let three : S b.lob.page (suc b.lob.version) (raised_row p b) b =
      subst (λ (k : ℕ). S b.lob.page k (raised_row p b) b) next two in
      let stands : StandsOn ch.there new
      (listed trx ch.log_pages rows (version_begun p ks touched store)) =
      subst (λ (r : Row). S r.lob.page (suc r.lob.version) (raised_row p r) r) e three in
      let all = (let a = may.at in a.consistent) in
      record {
        place = ch.place;
        log_pages = ch.log_pages;
        there = ch.there;
        stands = stands;
        consistent = listed_consistent trx ch.log_pages rows (version_begun p ks touched store) new
            (version_consistent p store all
            (may_change p store l (let w = may.work in w.found) may.idle) ch.fresh ks touched
            may.live') (let s = stands in s.is);
        directory = ch.directory;
        fresh = ch.fresh;
        within = record {
          page = (let w = ch.within in let q = w.page in let h = has.outside in
              let c = h.many in omega (arith, q, c));
          within = (let w = ch.within in w.within);
        };
        other = ch.other;
        log = subst (λ (r : Row). log_of (on_log trx (λ l. record l { pages = ch.log_pages })
            (on_log trx (with_record ch.place (record_of p r (versioned ks touched)))
            store.active)) trx ≡ Some (record (with_record ch.place
            (record_of p r (versioned ks touched)) l) { pages = ch.log_pages })) e ch.log;
      }
