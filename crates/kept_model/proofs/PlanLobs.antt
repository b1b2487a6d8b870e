-- What the events of a change do to the LOBs of documents, by its kind.
use Rattle.std.proofs.Common.{◌≡◌, ◌≢◌, ℕ, suc, ◌+◌, Bool, true, false, nat_eq, List, [], ◌∷◌, ◌++◌, map, length, Option, Some, None, option_to_list, refl, sym, ap, ap₂, ◌∙◌, arith, if◌then◌else◌}
use Rattle.journal_model.specs.Held.{inserted, rebuilt, versioned, patched, removed, HeldLob, new_lob, raised}
use Rattle.store_data.specs.Store.{RowState, live, deleted, Row, Version, Piece, Lob, Run, Body, Store}
use Rattle.store_data.specs.Store as bodies
use Rattle.store_model.specs.Lobs.{lob_of}
use Rattle.store_model.specs.Runs.{version_laid, piece_laid, lob_laid, lobs_laid}
use Rattle.store_model.specs.History.{Change, changes, row_before}
use Rattle.store_model.specs.Steps.{on_lob, on_lobs, on_log, at_version}
use Rattle.store_data.specs.Logs.{with_record}
use Rattle.store_model.specs.Events.{Plan, planned, record_of, new_row, raised_row, patched_row, deleted_row, insert_begun, rebuild_begun, version_begun, patch_made, delete_made}
use Rattle.store_model.specs.Moves.{MayChange, IsUnnamed}
use Rattle.store_model.specs.Owned.{owned, owned_lobs, owned_if, owned_by, log_pages, IsNotAmong, AreDifferent}
use Rattle.store_model.specs.Consistent.{IsConsistent}
use Rattle.store_model.proofs.RowLemmas.{row-with_this, row-with_other}
use Rattle.store_model.proofs.LogLemmas.{change}
use Rattle.store_model.proofs.ChangeLemmas.{changes-own, changes-other}
use Rattle.store_model.proofs.LobLemmas.{lob-with_other, lob-on_other}
use Rattle.store_model.proofs.TakesLemmas.{owned_unlive, owned_live, lob-with_this}
use Rattle.store_model.proofs.OwnedLemmas.{not_parts, lobs_owned, unowned_unnamed}
use Rattle.store_model.proofs.HeldLemmas.{unowned_none}
use Rattle.kept_model.specs.Engine.{Left}
use Rattle.kept_model.specs.Held.{numbers_of, held_lob, held_lobs, change_lobs, lob_pages, lob_list, pieces_left, pushes_left}
use Rattle.kept_model.specs.Pages.{KeepsLobs, PlansLobs}
use Rattle.kept_model.proofs.OwnLemmas.{version_there}
use Rattle.kept_model.proofs.HeldPurges.{thin_none}
use Rattle.kept_model.proofs.HeldFrame.{numbers, many}
use Rattle.kept_model.proofs.LobLists.{changes_not, doc_not, held_same, others_keep, first_changes}

-- ---- a change is planned

module _ (p : Plan) (new : Row → Row) (body : Body) (f : List Lob → List Lob) (store : Store) where
  abbrev after : Store
  after = on_lobs f (planned p new body store)

  abbrev before : Row
  before = row_before store p.doc

  abbrev logged : Store
  logged = record store { active = on_log p.trx (with_record p.place (record_of p before body)) store.active }

  planned_changes : MayChange p store → changes after p.doc ≡ change p.trx p.place (record_of p before body) ∷ changes store p.doc
  planned_changes may = changes-own p (new before) before body f store may

  planned_list : MayChange p store → lob_list after p.doc ≡ held_lobs (f store.lobs) (owned_if (new before).state (new before).lob.page ++ (owned_by body before ++ change_lobs (changes store p.doc)))
  planned_list may = ap₂ (λ (r : Row) (cs : List Change). held_lobs (f store.lobs) (owned_if r.state r.lob.page ++ change_lobs cs)) (row-with_this p.doc (new before) logged) (planned_changes may)

  planned_others : ((q : ℕ) → q ≢ p.doc → held_lobs (f store.lobs) (lob_pages store q) ≡ lob_list store q) → (q : ℕ) → q ≢ p.doc → KeepsLobs store after q
  planned_others same q other =
      let cs = changes-other p (new before) before body f store q other in
      record {
        changes = cs;
        lobs = ap₂ (λ (r : Row) (xs : List Change). held_lobs (f store.lobs) (owned_if r.state r.lob.page ++ change_lobs xs)) (row-with_other p.doc q (new before) logged other) cs ∙ same q other;
      }

-- a page that isn't owned is that of no LOB
pub none_there : (store : Store) (page : ℕ) → IsConsistent store → IsNotAmong page (owned store) → lob_of store.lobs page ≡ None
none_there store page all off =
    let a = not_parts page (0 ∷ store.row_pages) (log_pages store.active ++ (log_pages store.committed ++ Rattle.store_model.specs.Owned.lob_pages store.lobs (owned_lobs store))) off in
    let b = not_parts page (log_pages store.active) (log_pages store.committed ++ Rattle.store_model.specs.Owned.lob_pages store.lobs (owned_lobs store)) a.1 in
    let c = not_parts page (log_pages store.committed) (Rattle.store_model.specs.Owned.lob_pages store.lobs (owned_lobs store)) b.1 in
    unowned_none page store all.lobs (lobs_owned page store.lobs (owned_lobs store) c.1)

module _ (p : Plan) (store : Store) (all : IsConsistent store) (may : MayChange p store) where
  -- a new LOB, of so many pieces as yet
  module _ (lob : Lob) (len m n : ℕ) (left : Left) (off : IsNotAmong lob.page (owned store)) (is : held_lob lob ≡ new_lob m) (rests : m + pieces_left left ≡ n) where
    abbrev with_lob : List Lob → List Lob
    with_lob ls = ls ++ lob ∷ []

    unnamed : IsUnnamed lob.page store
    unnamed = unowned_unnamed lob.page store all.well off

    stays : (q : ℕ) → q ≢ lob.page → lob_of (with_lob store.lobs) q ≡ lob_of store.lobs q
    stays q other = lob-with_other q store.lobs lob other

    others_stay : (q : ℕ) → q ≢ p.doc → held_lobs (with_lob store.lobs) (lob_pages store q) ≡ lob_list store q
    others_stay q other = held_same lob.page store.lobs (with_lob store.lobs) (lob_pages store q) stays (doc_not lob.page store q all.well (unnamed q))

    older : held_lobs (with_lob store.lobs) (change_lobs (changes store p.doc)) ≡ held_lobs store.lobs (change_lobs (changes store p.doc))
    older = held_same lob.page store.lobs (with_lob store.lobs) (change_lobs (changes store p.doc)) stays
        (changes_not lob.page (row_before store p.doc) (changes store p.doc) (all.well.chains p.doc) (unnamed p.doc).1)

    front : (ls : List HeldLob) → map held_lob (option_to_list (lob_of (with_lob store.lobs) lob.page)) ++ ls ≡ new_lob (length (numbers m)) ∷ ls
    front ls = ap (λ (o : Option Lob). map held_lob (option_to_list o) ++ ls) (lob-with_this store.lobs lob (none_there store lob.page all off))
        ∙ ap (λ (h : HeldLob). h ∷ ls) (is ∙ ap new_lob (sym (many m)))

    rest_is : length (numbers m) + pieces_left left ≡ n
    rest_is = ap (λ (k : ℕ). k + pieces_left left) (many m) ∙ rests

    pub insert_plans : (row_before store p.doc).state ≢ live → PlansLobs p (inserted n) left store (insert_begun p lob len store)
    insert_plans none = record {
      change = change p.trx p.place (record_of p (row_before store p.doc) (bodies.inserted lob.page));
      changes = planned_changes p (new_row p lob.page len) (bodies.inserted lob.page) with_lob store may;
      trx = refl;
      kind = tt;
      done = numbers m;
      rest = rest_is;
      lobs = planned_list p (new_row p lob.page len) (bodies.inserted lob.page) with_lob store may
          ∙ front (held_lobs (with_lob store.lobs) (change_lobs (changes store p.doc)))
          ∙ ap (λ (ls : List HeldLob). new_lob (length (numbers m)) ∷ ls) (older ∙ sym (ap (λ (ps : List ℕ). held_lobs store.lobs (ps ++ change_lobs (changes store p.doc))) (owned_unlive (row_before store p.doc) none)));
      others = planned_others p (new_row p lob.page len) (bodies.inserted lob.page) with_lob store others_stay;
    }

    pub rebuild_plans : (row_before store p.doc).state ≡ live → PlansLobs p (rebuilt n) left store (rebuild_begun p lob len store)
    rebuild_plans is_live = record {
      change = change p.trx p.place (record_of p (row_before store p.doc) (bodies.rebuilt lob.page));
      changes = planned_changes p (new_row p lob.page len) (bodies.rebuilt lob.page) with_lob store may;
      trx = refl;
      kind = tt;
      done = numbers m;
      rest = rest_is;
      lobs = planned_list p (new_row p lob.page len) (bodies.rebuilt lob.page) with_lob store may
          ∙ front (held_lobs (with_lob store.lobs) ((row_before store p.doc).lob.page ∷ change_lobs (changes store p.doc)))
          ∙ ap (λ (ls : List HeldLob). new_lob (length (numbers m)) ∷ ls)
          (ap₂ (λ (o : Option Lob) (ls : List HeldLob). map held_lob (option_to_list o) ++ ls) (stays (row_before store p.doc).lob.page ((unnamed p.doc).0 is_live)) older
          ∙ sym (ap (λ (ps : List ℕ). held_lobs store.lobs (ps ++ change_lobs (changes store p.doc))) (owned_live (row_before store p.doc) is_live)));
      others = planned_others p (new_row p lob.page len) (bodies.rebuilt lob.page) with_lob store others_stay;
    }

  -- the LOB is raised, and no version is made as yet
  pub version_plans : (pieces : ℕ) (touched : List ℕ) (left : Left) → (row_before store p.doc).state ≡ live → (m : Lob) → lob_of store.lobs (row_before store p.doc).lob.page ≡ Some m
      → pushes_left left ≡ map suc touched → AreDifferent (map suc touched) → PlansLobs p (versioned (map suc touched)) left store (version_begun p pieces touched store)
  version_plans pieces touched left is_live m there rests different =
      let page = (row_before store p.doc).lob.page in
      let f = at_version (suc (row_before store p.doc).lob.version) in
      let same : suc (row_before store p.doc).lob.version ≡ m.version + 1 = (let v = version_there store p.doc m all is_live there in omega (arith, v)) in
      record {
        change = change p.trx p.place (record_of p (row_before store p.doc) (bodies.versioned pieces touched));
        changes = planned_changes p (raised_row p) (bodies.versioned pieces touched) (on_lob page f) store may;
        trx = refl;
        kind = refl;
        done = [];
        rest = (rests, different);
        lobs = planned_list p (raised_row p) (bodies.versioned pieces touched) (on_lob page f) store may
            ∙ first_changes store p.doc page f (raised []) m all.well is_live refl there (λ l. refl)
            (ap₂ (λ (v : ℕ) (ps : List (List ℕ)). let h : HeldLob = record { version = v; pieces = ps } in h) same (sym (thin_none (λ vs. (m.version + 1) ∷ vs) 1 (map numbers_of m.pieces))));
        others = planned_others p (raised_row p) (bodies.versioned pieces touched) (on_lob page f) store
            (λ q other. (others_keep store p.doc page (on_lob page f) all.well is_live refl (λ r apart. lob-on_other r page f store.lobs (λ l. refl) apart) q other).lobs);
      }

-- ---- a change in place leaves all numbers

numbers_laid : (rs : List Run) (ps : List Piece) → map numbers_of (map (piece_laid rs) ps) ≡ map numbers_of ps
numbers_laid rs [] = refl
numbers_laid rs (p ∷ ps) = ap₂ (λ (ns : List ℕ) (qs : List (List ℕ)). (p.head.number ∷ ns) ∷ qs) (older p.older) (numbers_laid rs ps)
  where
    older : (vs : List Version) → map (λ (v : Version). v.number) (map (version_laid rs) vs) ≡ map (λ (v : Version). v.number) vs
    older [] = refl
    older (v ∷ vs) = ap (λ (ns : List ℕ). v.number ∷ ns) (older vs)

lob_laid_at : (rs : List Run) (lobs : List Lob) (page : ℕ) → map held_lob (option_to_list (lob_of (lobs_laid rs lobs) page)) ≡ map held_lob (option_to_list (lob_of lobs page))
lob_laid_at rs [] page = refl
lob_laid_at rs (l ∷ ls) page = by_test (nat_eq l.page page) (lob_laid_at rs ls page)
  where
    by_test : (b : Bool) → map held_lob (option_to_list (lob_of (lobs_laid rs ls) page)) ≡ map held_lob (option_to_list (lob_of ls page))
        → map held_lob (option_to_list (if b then Some (lob_laid rs l) else lob_of (lobs_laid rs ls) page)) ≡ map held_lob (option_to_list (if b then Some l else lob_of ls page))
    by_test true rest = ap (λ (ps : List (List ℕ)). let h : HeldLob = record { version = l.version; pieces = ps } in h ∷ []) (numbers_laid rs l.pieces)
    by_test false rest = rest

pub held_laid : (rs : List Run) (lobs : List Lob) (ps : List ℕ) → held_lobs (lobs_laid rs lobs) ps ≡ held_lobs lobs ps
held_laid rs lobs [] = refl
held_laid rs lobs (p ∷ ps) = ap₂ (λ (xs ys : List HeldLob). xs ++ ys) (lob_laid_at rs lobs p) (held_laid rs lobs ps)

module _ (p : Plan) (store : Store) (may : MayChange p store) (left : Left) (is_live : (row_before store p.doc).state ≡ live) where
  pub patch_plans : (old new : List Run) → PlansLobs p patched left store (patch_made p old new store)
  patch_plans old new = record {
    change = change p.trx p.place (record_of p (row_before store p.doc) (bodies.patched old));
    changes = planned_changes p (patched_row p) (bodies.patched old) (lobs_laid new) store may;
    trx = refl;
    kind = tt;
    done = [];
    rest = tt;
    lobs = planned_list p (patched_row p) (bodies.patched old) (lobs_laid new) store may ∙ held_laid new store.lobs (lob_pages store p.doc);
    others = planned_others p (patched_row p) (bodies.patched old) (lobs_laid new) store (λ q other. held_laid new store.lobs (lob_pages store q));
  }

  pub delete_plans : PlansLobs p removed left store (delete_made p store)
  delete_plans = record {
    change = change p.trx p.place (record_of p (row_before store p.doc) bodies.removed);
    changes = planned_changes p (deleted_row p) bodies.removed (λ ls. ls) store may;
    trx = refl;
    kind = tt;
    done = [];
    rest = tt;
    lobs = planned_list p (deleted_row p) bodies.removed (λ ls. ls) store may
        ∙ sym (ap (λ (ps : List ℕ). held_lobs store.lobs (ps ++ change_lobs (changes store p.doc))) (owned_live (row_before store p.doc) is_live));
    others = planned_others p (deleted_row p) bodies.removed (λ ls. ls) store (λ q other. refl);
  }
