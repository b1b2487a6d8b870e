-- Runs laid over a LOB of a store, with the record of the change and its row.
use Rattle.std.proofs.Common.{◌≡◌, ◌≢◌, ◌⊎◌, inl, inr, ℕ, ◌≤◌, Bool, if◌then◌else◌, List, [], ◌∷◌, ◌++◌, length, Option, Some, refl, sym, ap, subst, ◌∙◌, arith}
use Rattle.std.proofs.lemmas.Bool.Decides.{eqb_tells}
use Rattle.std.proofs.lemmas.List.{length-set}
use Rattle.page_model.specs.Pages.{Pages, Write, page_at, written, all_written, field}
use Rattle.page_model.specs.Counts.{times}
use Rattle.page_model.proofs.FrameLemmas.{page_at-written_other}
use Rattle.page_space.specs.Map.{free_of}
use Rattle.store_data.specs.Store.{patched, Row, Run, Version, Piece, Lob, Log, Store}
use Rattle.store_data.specs.Logs.{with_record}
use Rattle.lob_model.specs.Pieces.{versions, piece_versions}
use Rattle.lob_model.specs.Lobs.{lob_pages}
use Rattle.undo_model.specs.Rows.{RowPage}
use Rattle.store_model.specs.Lobs.{lob_of}
use Rattle.store_model.specs.History.{row_before}
use Rattle.store_model.specs.Steps.{on_log, on_lobs, log_of}
use Rattle.store_model.specs.Events.{record_of, with_change, patched_row, patch_made}
use Rattle.store_model.specs.Moves.{ArePaired, StandThere}
use Rattle.store_model.specs.Owned.{rest_of, data_page, data_pages, piece_pages, IsAmong, AreOf}
use Rattle.store_model.specs.Runs.{lobs_laid}
use Rattle.store_model.proofs.ConsistentLemmas.{patch_consistent}
use Rattle.store_model.proofs.SoundLemmas.{others_untouched}
use Rattle.store_parts.specs.Stored.{row_pages}
use Rattle.store_parts.specs.Standing.{AreLobs}
use Rattle.store_pages.specs.Runs.{IsOn, LieIn, writes_of}
use Rattle.store_pages.proofs.RunLobLemmas.{has_page}
use Rattle.row_dir.specs.declared.dir.RowDir.{RowDir}
use Rattle.store_steps.specs.Standing.{StandsOn}
use Rattle.store_steps.proofs.LobLemmas.{LobAt, lob_at}
use Rattle.store_steps.proofs.RunLemmas.{once, runs_laid}
use Rattle.transactions.specs.Changes.{Changes, plan_by, changed}
use Rattle.transactions.specs.Plans.{listed}
use Rattle.transactions.proofs.PlanLemmas.{listed_consistent, may_change}
use Rattle.lob_updates.specs.Plans.{MayPlan}
use Rattle.lob_updates.specs.Patches.{CanPatch, PatchesRuns, runs_there}
use Rattle.lob_updates.proofs.StoodLemmas.{EachInside, all_inside, runs_stood}

-- ---- the run's page is one of the LOB's

among_left : (n : ℕ) (xs ys : List ℕ) → IsAmong n xs → IsAmong n (xs ++ ys)
among_left n [] ys there = absurd there
among_left n (x ∷ xs) ys (inl here) = inl here
among_left n (x ∷ xs) ys (inr more) = inr (among_left n xs ys more)

among_right : (n : ℕ) (xs ys : List ℕ) → IsAmong n ys → IsAmong n (xs ++ ys)
among_right n [] ys there = there
among_right n (x ∷ xs) ys there = inr (among_right n xs ys there)

on_data : (r : Run) (first : ℕ) (xs : List Version) → IsOn r xs
    → (r.page ≡ first) ⊎ IsAmong r.page (data_pages first xs)
on_data r first [] on = absurd on
on_data r first (x ∷ xs) (inl here) = elim (eqb_tells x.page first) [
  | inl same ↦ inl (sym here ∙ same.1)
  | inr other ↦ inr (among_left r.page (data_page first x) (data_pages first xs)
      (subst (λ (b : Bool). IsAmong r.page (if b then [] else x.page ∷ [])) (sym other.0)
      (inl here)))
]
on_data r first (x ∷ xs) (inr more) = elim (on_data r first xs more) [
  | inl same ↦ inl same
  | inr there ↦ inr (among_right r.page (data_page first x) (data_pages first xs) there)
]

on_split : (r : Run) (xs ys : List Version) → IsOn r (xs ++ ys) → IsOn r xs ⊎ IsOn r ys
on_split r [] ys on = inr on
on_split r (x ∷ xs) ys (inl here) = inl (inl here)
on_split r (x ∷ xs) ys (inr more) = elim (on_split r xs ys more) [
  | inl left ↦ inl (inr left)
  | inr right ↦ inr right
]

on_pieces : (r : Run) (first : ℕ) (ps : List Piece) → IsOn r (versions ps)
    → (r.page ≡ first) ⊎ IsAmong r.page (piece_pages first ps)
on_pieces r first [] on = absurd on
on_pieces r first (p ∷ ps) on = elim (on_split r (piece_versions p) (versions ps) on) [
  | inl own ↦ elim (on_data r first (piece_versions p) own) [
    | inl same ↦ inl same
    | inr there ↦ inr (among_left r.page (data_pages first (piece_versions p))
        (piece_pages first ps) there)
  ]
  | inr rest ↦ elim (on_pieces r first ps rest) [
    | inl same ↦ inl same
    | inr there ↦ inr (among_right r.page (data_pages first (piece_versions p))
        (piece_pages first ps) there)
  ]
]

are_of : (page : ℕ) (lobs : List Lob) (l : Lob) (rs : List Run) → lob_of lobs page ≡ Some l
    → l.page ≡ page → LieIn rs (versions l.pieces) → AreOf page lobs rs
are_of page lobs l [] found here lie = tt
are_of page lobs l (r ∷ rs) found here lie = (
  subst (λ (o : Option Lob). IsAmong r.page (page ∷ rest_of o)) (sym found)
      (elim (on_pieces r l.page l.pieces (let x = lie.0 in x.on)) [
        | inl same ↦ inl (sym (same ∙ here))
        | inr there ↦ inr (among_right r.page l.index (piece_pages l.page l.pieces) there)
      ]),
  are_of page lobs l rs found here lie.1,
)

-- ---- what is written leaves the length of the pages and the count of free ones

one_kept : (w : Write) (pages : Pages)
    → length (written pages w.page w.at w.bytes) ≡ length pages
unfolding written
one_kept w pages = length-set pages w.page _

many_kept : (ws : List Write) (pages : Pages) → length (all_written ws pages) ≡ length pages
many_kept [] pages = refl
many_kept (w ∷ ws) pages =
    many_kept ws (written pages w.page w.at w.bytes) ∙ one_kept w pages

abbrev AreOther : List Run → Type 0
AreOther [] = Unit {0}
AreOther (r ∷ rs) = (0 ≢ r.page) × AreOther rs

zero_kept : (rs : List Run) (pages : Pages) → AreOther rs
    → page_at (all_written (writes_of rs) pages) 0 ≡ page_at pages 0
zero_kept [] pages other = refl
zero_kept (r ∷ rs) pages other =
    zero_kept rs (written pages r.page r.at r.bytes) other.1
    ∙ page_at-written_other pages r.page r.at r.bytes 0 other.0

-- ---- the runs lie in a LOB of the store

module _ (there : List RowPage) (pages : Pages) (store : Store) (page : ℕ) (l : Lob)
    (on : StandsOn there pages store) (found : lob_of store.lobs page ≡ Some l) where
  at : LobAt there pages store page l
  at = lob_at there pages store page l on found

  are_other : (rs : List Run) → LieIn rs (versions l.pieces) → AreOther rs
  are_other [] lie = tt
  are_other (r ∷ rs) lie = (
    (λ e. absurd (no
        (let u = at.used in
        let none = u.other in
        let has = has_page pages l r at.stands lie.0 in
        let same : times 0 (lob_pages l) ≡ times r.page (lob_pages l) =
        ap (λ (n : ℕ). times n (lob_pages l)) e in
        omega (arith, none, has, same)))),
    are_other rs lie.1,
  )
    where
      no : 1 ≤ 0 → ⊥
      no h = absurd (omega arith)

  pub free_laid : (rs : List Run) → LieIn rs (versions l.pieces)
      → free_of (all_written (writes_of rs) pages) ≡ free_of pages
  unfolding field
  free_laid rs lie =
      ap (λ (bs : List ℕ). field (bs ∷ []) 0 62 4) (zero_kept rs pages (are_other rs lie))

  each_inside : (rs : List Run) → LieIn rs (versions l.pieces) → EachInside rs store.lobs
  each_inside [] lie = tt
  each_inside (r ∷ rs) lie = (
    (all_inside r store.lobs page l found (has_page pages l r at.stands lie.0)
        (once there pages store r.page on) (let x = lie.0 in x.inside)).0,
    each_inside rs lie.1,
  )

  -- what stands there is whole in each version
  pub stood : (rs : List Run) → LieIn rs (versions l.pieces)
      → StandThere (runs_there pages rs) store.lobs
  stood rs lie =
      let are : AreLobs pages store.lobs =
      subst (AreLobs pages) (sym on.is.shows.lobs) on.is.standing.lobs in
      runs_stood pages rs store.lobs are (each_inside rs lie)

  pub of_lob : (rs : List Run) → LieIn rs (versions l.pieces) → AreOf page store.lobs rs
  of_lob rs lie = are_of page store.lobs l rs found at.here lie

-- ---- the event

module _ (told : Option Pages) (trx log n d : ℕ) (dir : RowDir) (reserved : ℕ)
    (there : List RowPage) (pages : Pages) (store : Store) (l : Log)
    (may : MayPlan told trx log n d dir reserved there pages store l) (b : Row)
    (e : b ≡ row_before store d) (runs : List Run) (m : Lob) (can : CanPatch d runs m store)
    (old : List Run) (paired : ArePaired old runs) (is : old ≡ runs_there pages runs)
    (dir' : RowDir) (mid : Pages)
    (ch : Changes l (plan_by trx n d) b b (patched old) dir' store mid) where
  abbrev pub mid_store : Store
  mid_store = changed (plan_by trx n d ch.place) b b (patched old) ch.log_pages
      (row_pages ch.there) store

  abbrev pub after : Pages
  after = all_written (writes_of runs) mid

  pub free_after : free_of after ≡ free_of mid
  free_after = free_laid ch.there mid mid_store (row_before store d).lob.page m ch.stands can.found
      runs can.lie

  pub patch_made' : PatchesRuns l trx n d runs dir' store after
  patch_made' =
      let p = plan_by trx n d ch.place in
      let rows = row_pages ch.there in
      let page = (row_before store d).lob.page in
      let all = (let a = may.at in a.consistent) in
      let on = (let a = may.at in a.stands) in
      let laid = runs_laid ch.there mid mid_store page m runs ch.stands can.found can.lie in
      let S : Row → Type 0 = λ r. StandsOn ch.there after
      (listed trx ch.log_pages rows (on_lobs (lobs_laid runs)
      (with_change p (patched_row p r) r (patched old) store))) in
      let first : S b = laid in
      let stands : StandsOn ch.there after
      (listed trx ch.log_pages rows (patch_made p old runs store)) = subst S e first in
      record {
        old = old;
        paired = paired;
        stood = subst (λ (os : List Run). StandThere os store.lobs) (sym is)
            (stood there pages store page m on can.found runs can.lie);
        others = λ q other. others_untouched store d q runs all.well all.sound
            (λ x. other (sym x)) may.live'
            (of_lob there pages store page m on can.found runs can.lie);
        plans = record {
          place = ch.place;
          log_pages = ch.log_pages;
          there = ch.there;
          stands = stands;
          consistent = listed_consistent trx ch.log_pages rows (patch_made p old runs store) after
              (patch_consistent p store all
              (may_change p store l (let w = may.work in w.found) may.idle) ch.fresh old runs
              may.live') (let s = stands in s.is);
          directory = ch.directory;
          fresh = ch.fresh;
          within = record {
            page = (let w = ch.within in let q = w.page in
                let c = many_kept (writes_of runs) mid in omega (arith, q, c));
            within = (let w = ch.within in w.within);
          };
          other = ch.other;
          log = subst (λ (r : Row). log_of (on_log trx (λ l. record l { pages = ch.log_pages })
              (on_log trx (with_record ch.place (record_of p r (patched old)))
              store.active)) trx ≡ Some (record (with_record ch.place
              (record_of p r (patched old)) l) { pages = ch.log_pages })) e ch.log;
        };
      }
