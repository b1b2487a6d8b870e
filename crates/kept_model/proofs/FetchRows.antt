-- What a change has read stays so where the newest row does, and each of its own events keeps it.
use Rattle.std.proofs.Common.{◌≡◌, ◌≢◌, ℕ, ◌≤◌, Bool, true, nat_le, List, [], ◌∷◌, ◌++◌, length, drop, Option, Some, None, refl, sym, ap, subst, ◌∙◌, arith, option_map, if◌then◌else◌}
use Rattle.page_model.specs.Pages.{Address}
use Rattle.store_data.specs.Store.{RowState, absent, live, deleted, Row, Record, Piece, Lob, Store}
use Rattle.store_model.specs.Undo.{record_at}
use Rattle.read_model.specs.Document.{Document}
use Rattle.kept_model.specs.Undoes.{handed_flight}
use Rattle.store_data.specs.Pieces.{Part, part_of, version_at}
use Rattle.store_model.specs.Lobs.{part_list, parts_at, parts, lob_of, pieces_of}
use Rattle.store_model.specs.History.{row_before}
use Rattle.store_model.specs.Versions.{AreUpTo}
use Rattle.store_model.specs.Consistent.{IsConsistent}
use Rattle.read_model.specs.Flight.{Phase, Seek, Found, Pieces, Unpatch, Ready, Absent, Flight, onward}
use Rattle.read_model.specs.Steps.{hand_on, seek, put_found, versions_from, At, Looked, arrival, arrived, look, walking, with_part, looked, copy_from, copy, walk, lent_in}
use Rattle.read_model.specs.OfStore.{document}
use Rattle.kept_model.specs.Engine.{Left}
use Rattle.kept_model.specs.Views.{shown_by, newest_parts, will_show, completed}
use Rattle.kept_model.specs.Fetches.{sees_all, fetch_begun, fetch_event, KeepsNewest, AreFirstOf, IsCopied, IsFetchIn, IsFetch}
use Rattle.kept_model.proofs.SessionLemmas.{self_eq, not_eq}

-- ---- other events

module _ (d : ℕ) (old new : Store) (keeps : KeepsNewest d old new) (f : Flight) where
  by_phase : (ph : Phase) → IsFetchIn ph old d f → IsFetchIn ph new d f
  by_phase Seek h = h
  by_phase (Found n) h = h
  by_phase Pieces h = record {
    state = ap (λ (r : Row). r.state) (keeps.row h.state) ∙ h.state;
    row = h.row ∙ sym (keeps.row h.state);
    first = subst (AreFirstOf f.copied) (sym keeps.parts) h.first;
  }
  by_phase Unpatch h = (h.0, keeps.parts ∙ h.1)
  by_phase Ready h = keeps.parts ∙ h
  by_phase Absent h = keeps.parts ∙ h

  pub fetch_kept : IsFetch old d f → IsFetch new d f
  fetch_kept h = record { node = h.node; is = by_phase f.phase h.is }

-- nothing of the store that a change reads is different
pub same_newest : (d : ℕ) (store : Store) → KeepsNewest d store store
same_newest d store = record { parts = refl; row = λ is_live. refl }

-- a change that is half made keeps the length that its document will have
pub will_measured : (d : ℕ) (old new : Store) → KeepsNewest d old new → (left : Left)
    → ((bytes : List ℕ) → will_show left old.lobs (row_before old d) ≡ Some bytes → (row_before old d).lob.length ≡ length bytes)
    → (bytes : List ℕ) → will_show left new.lobs (row_before new d) ≡ Some bytes → (row_before new d).lob.length ≡ length bytes
will_measured d old new keeps left measured bytes shown = by_state (row_before old d).state refl
  where
    was : will_show left old.lobs (row_before old d) ≡ Some bytes
    was = ap (option_map (completed left)) (sym keeps.parts) ∙ shown

    none : (st : RowState) → (row_before old d).state ≡ st → shown_by st (parts old.lobs (row_before old d).lob) ≡ None → ⊥
    none st is nothing = absurd (cc (sym was ∙ ap (option_map (completed left)) (ap (λ (s : RowState). shown_by s (parts old.lobs (row_before old d).lob)) is ∙ nothing)))

    by_state : (st : RowState) → (row_before old d).state ≡ st → (row_before new d).lob.length ≡ length bytes
    by_state absent is = absurd (none absent is refl)
    by_state live is = ap (λ (r : Row). r.lob.length) (keeps.row is) ∙ measured bytes was
    by_state deleted is = absurd (none deleted is refl)

-- ---- the first event

pub fetch_begins : (store : Store) (d : ℕ) → IsFetch store d (fetch_begun store d)
fetch_begins store d = by_state (row_before store d).state refl
  where
    row : Row
    row = row_before store d

    by_state : (st : RowState) → row.state ≡ st → IsFetch store d (lent_in (arrival row row.state) (arrived row))
    by_state absent is = subst (λ (s : RowState). IsFetch store d (lent_in (arrival row s) (record { phase = arrival row s; row = row; cursor = None; node = None; copied = [] }))) (sym is)
        (record { node = refl; is = ap (λ (s : RowState). shown_by s (parts store.lobs row.lob)) is })
    by_state live is = subst (λ (s : RowState). IsFetch store d (lent_in (arrival row s) (record { phase = arrival row s; row = row; cursor = None; node = None; copied = [] }))) (sym is)
        (record { node = refl; is = record { state = is; row = refl; first = subst (AreFirstOf []) (sym (ap (λ (s : RowState). shown_by s (parts store.lobs row.lob)) is)) (parts store.lobs row.lob, refl) } })
    by_state deleted is = subst (λ (s : RowState). IsFetch store d (lent_in (arrival row s) (record { phase = arrival row s; row = row; cursor = None; node = None; copied = [] }))) (sym is)
        (record { node = refl; is = ap (λ (s : RowState). shown_by s (parts store.lobs row.lob)) is })

-- ---- a further event

-- of pieces without newer entries the head is taken
piece_is : (v : ℕ) (p : Piece) → p.head.number ≤ v → part_list (version_at (p.head ∷ p.older) v) ≡ part_of p.head ∷ []
piece_is v p up = let test : nat_le p.head.number v ≡ true = grind (arith, up) in ap (λ (b : Bool). part_list (if b then Some p.head else version_at p.older v)) test

looked_is : (v : ℕ) (p : Piece) → p.head.number ≤ v → look 8 v (p.head ∷ p.older) ≡ At p.head
looked_is v p up = let test : nat_le p.head.number v ≡ true = grind (arith, up) in ap (λ (b : Bool). if b then At p.head else look 7 v p.older) test

-- the pieces behind those that are copied
behind_first : (v : ℕ) (ps : List Piece) (copied rest : List Part) → AreUpTo v ps → parts_at ps v ≡ copied ++ rest
    → (more : List Piece) → drop (length copied) ps ≡ more → AreUpTo v more × (parts_at more v ≡ rest)
behind_first v ps [] rest up is more dropped = (subst (AreUpTo v) dropped up, ap (λ (qs : List Piece). parts_at qs v) (sym dropped) ∙ is)
behind_first v [] (c ∷ cs) rest up is more dropped = absurd (cc is)
behind_first v (p ∷ ps) (c ∷ cs) rest up is more dropped =
    let whole : part_of p.head ∷ parts_at ps v ≡ c ∷ (cs ++ rest) = sym (ap (λ (qs : List Part). qs ++ parts_at ps v) (piece_is v p up.0.0)) ∙ is in
    behind_first v ps cs rest up.1 (cc whole) more dropped

append_one : (xs : List Part) (x : Part) (ys : List Part) → xs ++ (x ∷ ys) ≡ (xs ++ x ∷ []) ++ ys
append_one [] x ys = refl
append_one (z ∷ zs) x ys = ap (λ ws. z ∷ ws) (append_one zs x ys)

append_none : (xs : List Part) → xs ++ [] ≡ xs
append_none [] = refl
append_none (x ∷ xs) = ap (λ ys. x ∷ ys) (append_none xs)

module _ (store : Store) (d : ℕ) (f : Flight) (all : IsConsistent store) (node : f.node ≡ None) where
  abbrev row : Row
  row = row_before store d

  abbrev doc : Document
  doc = document store d

  abbrev After : Flight → Type 0
  After g = IsFetch store d (lent_in g.phase g)

  -- the walk has nothing to put back
  walks : (g : Flight) → g.row ≡ row → newest_parts store d ≡ Some g.copied → After (walking doc g)
  walks g same whole = record {
    node = refl;
    is = (ap (λ (r : Row). onward r row) same ∙ ap (λ (b : Bool). if b then None else row.roll) (self_eq row.trx), whole);
  }

  module _ (phase_is : f.phase ≡ Pieces) (copied : IsCopied store d f) where
    abbrev pieces : List Piece
    pieces = pieces_of (lob_of store.lobs row.lob.page)

    shows : newest_parts store d ≡ Some (parts_at pieces row.lob.version)
    shows = ap (λ (s : RowState). shown_by s (parts store.lobs row.lob)) copied.state

    split : (rest : List Part) × (parts_at pieces row.lob.version ≡ f.copied ++ rest)
    split = subst (AreFirstOf f.copied) shows copied.first

    up_to : (m : Option Lob) → lob_of store.lobs row.lob.page ≡ m → AreUpTo row.lob.version (pieces_of m)
    up_to None is = tt
    up_to (Some l) is = ((all.versions d).0 copied.state l is).1

    abbrev with_copied : Part → Flight
    with_copied part = record f { node = None; copied = f.copied ++ part ∷ [] }

    -- another piece is copied
    one_more : (part : Part) (rest : List Part) → newest_parts store d ≡ Some ((f.copied ++ part ∷ []) ++ rest) → (more : List Piece) → parts_at more row.lob.version ≡ rest
        → After (with_part doc more part f)
    one_more part rest now [] none = walks (record f { node = None; copied = f.copied ++ part ∷ [] }) copied.row
        (now ∙ ap (λ (ps : List Part). Some ((f.copied ++ part ∷ []) ++ ps)) (sym none) ∙ ap (λ (ps : List Part). Some ps) (append_none (f.copied ++ part ∷ [])))
    one_more part rest now (q ∷ qs) some = subst (λ (ph : Phase). IsFetch store d (lent_in ph (with_copied part))) (sym phase_is)
        (record { node = refl; is = subst (λ (ph : Phase). IsFetchIn ph store d (with_copied part)) (sym phase_is) (record { state = copied.state; row = copied.row; first = subst (AreFirstOf (f.copied ++ part ∷ [])) (sym now) (rest, refl) }) })

    by_more : (more : List Piece) → drop (length f.copied) pieces ≡ more → After (copy_from doc more f)
    by_more [] is =
        let b = behind_first row.lob.version pieces f.copied split.0 (up_to (lob_of store.lobs row.lob.page) refl) split.1 [] is in
        walks f copied.row (shows ∙ ap (λ (ps : List Part). Some ps) split.1 ∙ ap (λ (ps : List Part). Some (f.copied ++ ps)) (sym b.1) ∙ ap (λ (ps : List Part). Some ps) (append_none f.copied))
    by_more (p ∷ more) is =
        let b = behind_first row.lob.version pieces f.copied split.0 (up_to (lob_of store.lobs row.lob.page) refl) split.1 (p ∷ more) is in
        let found : look 8 f.row.lob.version (p.head ∷ p.older) ≡ At p.head = ap (λ (r : Row). look 8 r.lob.version (p.head ∷ p.older)) copied.row ∙ looked_is row.lob.version p b.0.0.0 in
        let rest_is : part_of p.head ∷ parts_at more row.lob.version ≡ split.0 = sym (ap (λ (qs : List Part). qs ++ parts_at more row.lob.version) (piece_is row.lob.version p b.0.0.0)) ∙ b.1 in
        let now : newest_parts store d ≡ Some ((f.copied ++ part_of p.head ∷ []) ++ parts_at more row.lob.version) =
        shows ∙ ap (λ (ps : List Part). Some ps) split.1 ∙ ap (λ (ps : List Part). Some (f.copied ++ ps)) (sym rest_is) ∙ ap (λ (ps : List Part). Some ps) (append_one f.copied (part_of p.head) (parts_at more row.lob.version)) in
        subst (λ (n : Option Address). After (looked doc more f (look 8 f.row.lob.version (versions_from n p)))) (sym node)
        (subst (λ (l : Looked). After (looked doc more f l)) (sym found) (one_more (part_of p.head) (parts_at more row.lob.version) now more refl))

  -- by its phase
  abbrev stepped : Phase → Flight
  stepped ph = elim ph [
    | Seek ↦ seek 8 sees_all doc f.row
    | Found n ↦ f
    | Pieces ↦ copy doc f
    | Unpatch ↦ walk 8 doc f
    | Ready ↦ f
    | Absent ↦ f
  ]

  ended : (ph : Phase) → f.phase ≡ ph → IsFetchIn ph store d f → IsFetch store d f
  ended ph is h = record { node = node; is = subst (λ (q : Phase). IsFetchIn q store d f) (sym is) h }

  by_step : (ph : Phase) → f.phase ≡ ph → IsFetchIn ph store d f → After (stepped ph)
  by_step Seek is h = absurd h
  by_step (Found n) is h = absurd h
  by_step Pieces is h = subst (λ (r : Row). After (copy_from doc (drop (length f.copied) (pieces_of (lob_of store.lobs r.lob.page))) f)) (sym h.row) (by_more is h (drop (length f.copied) (pieces_of (lob_of store.lobs row.lob.page))) refl)
  by_step Unpatch is h = subst (λ (c : Option Address). After (elim c [ None ↦ record f { phase = Ready } | Some a ↦ put_found (walk 7 doc) (record_at doc.records a) f ])) (sym h.0) (record { node = node; is = h.1 })
  by_step Ready is h = subst (λ (q : Phase). IsFetch store d (lent_in q f)) (sym is) (ended Ready is h)
  by_step Absent is h = subst (λ (q : Phase). IsFetch store d (lent_in q f)) (sym is) (ended Absent is h)

pub fetch_goes_on : (store : Store) (d : ℕ) (f : Flight) → IsConsistent store → IsFetch store d f → IsFetch store d (fetch_event store d f)
fetch_goes_on store d f all h = by_step store d f all h.node f.phase refl h.is

-- ---- reads that are turned

pub fetch_handed : (store : Store) (doc : ℕ) (a : Address) (u : Record) (d : ℕ) (f : Flight) → d ≢ doc → IsFetch store d f → IsFetch store d (handed_flight doc a u d f)
fetch_handed store doc a u d f other h = subst (IsFetch store d) (sym (ap (λ (b : Bool). if b then hand_on a u f else f) (not_eq d doc other))) h
