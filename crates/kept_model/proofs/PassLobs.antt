-- What the events of a purged record do to the LOBs of documents: where the LOB before goes, or
-- nothing does.
use Rattle.std.proofs.Common.{◌≡◌, ◌≢◌, inl, inr, ◌⊎◌, ℕ, zero, suc, ◌+◌, ◌-◌, ◌≤◌, Bool, true, false, List, [], ◌∷◌, ◌++◌, map, length, take, Option, Some, None, IsSome, option_to_list, refl, sym, ap, ap₂, subst, ◌∙◌, arith, if◌then◌else◌}
use Rattle.std.proofs.lemmas.List.{append_assoc, append-nil}
use Rattle.page_model.specs.Pages.{Address}
use Rattle.journal_model.specs.Held.{Kind, inserted, rebuilt, versioned, patched, removed, HeldLob, is_in, at_pieces, at_last, but_last, new_lob, raised, add, add_all}
use Rattle.history_model.specs.Sound.{IsFitting}
use Rattle.store_data.specs.Store.{RowState, live, deleted, Row, Lob, Body, Record, Log, Store}
use Rattle.store_data.specs.Store as bodies
use Rattle.store_data.specs.Pieces.{all_but_last}
use Rattle.store_data.specs.Logs.{passed}
use Rattle.store_model.specs.Lobs.{lob_of}
use Rattle.store_model.specs.History.{Change, changes, row_before, row_of, absent_row}
use Rattle.store_model.specs.Steps.{last_in, on_lob, on_lobs, without_piece, without_index}
use Rattle.store_model.specs.Undo.{on_oldest}
use Rattle.store_model.specs.Keeps.{Frees}
use Rattle.store_model.specs.Owned.{owned_if, owned_by, IsNotAmong}
use Rattle.store_model.specs.Consistent.{IsConsistent}
use Rattle.store_model.proofs.LogLemmas.{change, among_this}
use Rattle.store_model.proofs.LobLemmas.{lob-on_this, lob-on_other}
use Rattle.store_model.proofs.ChainLemmas.{chain_front, front_elsewhere}
use Rattle.store_model.proofs.PurgeLemmas.{passed_changes}
use Rattle.store_model.proofs.GivesLemmas.{pass_chain, before_elsewhere, before_freed}
use Rattle.kept_model.specs.Held.{numbers_of, held_lob, held_lobs, change_lobs, lob_pages, lob_list, cut, half_drop, IsDropped, IsOfKind}
use Rattle.kept_model.specs.Pages.{KeepsLobs, AreLobs, DropsLobs}
use Rattle.kept_model.proofs.NumberLists.{map_but_last}
use Rattle.kept_model.proofs.LobLists.{both_not, one_not, changes_not, doc_not, held_same}

-- ---- lists of LOBs, from their end

pub held_both : (lobs : List Lob) (ps qs : List ℕ) → held_lobs lobs (ps ++ qs) ≡ held_lobs lobs ps ++ held_lobs lobs qs
held_both lobs [] qs = refl
held_both lobs (p ∷ ps) qs = ap (λ (ls : List HeldLob). map held_lob (option_to_list (lob_of lobs p)) ++ ls) (held_both lobs ps qs)
    ∙ sym (append_assoc (map held_lob (option_to_list (lob_of lobs p))) (held_lobs lobs ps) (held_lobs lobs qs))

pub lobs_both : (cs ds : List Change) → change_lobs (cs ++ ds) ≡ change_lobs cs ++ change_lobs ds
lobs_both [] ds = refl
lobs_both (c ∷ cs) ds = ap (λ (ps : List ℕ). owned_by c.undo.body c.undo.before ++ ps) (lobs_both cs ds) ∙ sym (append_assoc (owned_by c.undo.body c.undo.before) (change_lobs cs) (change_lobs ds))

pub last_of_list : (g : HeldLob → HeldLob) (xs : List HeldLob) (x : HeldLob) → at_last g (xs ++ x ∷ []) ≡ xs ++ g x ∷ []
last_of_list g [] x = refl
last_of_list g (y ∷ []) x = refl
last_of_list g (y ∷ z ∷ xs) x = ap (λ (ls : List HeldLob). y ∷ ls) (last_of_list g (z ∷ xs) x)

pub but_last_of : (xs : List HeldLob) (x : HeldLob) → but_last (xs ++ x ∷ []) ≡ xs
but_last_of [] x = refl
but_last_of (y ∷ []) x = refl
but_last_of (y ∷ z ∷ xs) x = ap (λ (ls : List HeldLob). y ∷ ls) (but_last_of (z ∷ xs) x)

-- what is done to the last LOB, and changes in front, commute where they do for one that is raised
pub last_add : (g : HeldLob → HeldLob) (k : Kind) (x : HeldLob) (xs : List HeldLob) → ((t : List ℕ) (l : HeldLob) → g (raised t l) ≡ raised t (g l)) → at_last g (add k (x ∷ xs)) ≡ add k (at_last g (x ∷ xs))
last_add g (inserted n) x xs same = refl
last_add g (rebuilt n) x xs same = refl
last_add g (versioned t) x [] same = ap (λ (l : HeldLob). l ∷ []) (same t x)
last_add g (versioned t) x (y ∷ ys) same = refl
last_add g patched x xs same = refl
last_add g removed x xs same = refl

pub some_add : (k : Kind) (x : HeldLob) (xs : List HeldLob) → (y : HeldLob) × (ys : List HeldLob) × (add k (x ∷ xs) ≡ y ∷ ys)
some_add (inserted n) x xs = (new_lob n, x ∷ xs, refl)
some_add (rebuilt n) x xs = (new_lob n, x ∷ xs, refl)
some_add (versioned t) x xs = (raised t x, xs, refl)
some_add patched x xs = (x, xs, refl)
some_add removed x xs = (x, xs, refl)

pub some_all : (ks : List Kind) (x : HeldLob) (xs : List HeldLob) → (y : HeldLob) × (ys : List HeldLob) × (add_all ks (x ∷ xs) ≡ y ∷ ys)
some_all [] x xs = (x, xs, refl)
some_all (k ∷ ks) x xs = let r = some_all ks x xs in let s = some_add k r.0 r.1 in (s.0, s.1, ap (add k) r.2 ∙ s.2)

pub last_all : (g : HeldLob → HeldLob) (ks : List Kind) (x : HeldLob) (xs : List HeldLob) → ((t : List ℕ) (l : HeldLob) → g (raised t l) ≡ raised t (g l)) → at_last g (add_all ks (x ∷ xs)) ≡ add_all ks (at_last g (x ∷ xs))
last_all g [] x xs same = refl
last_all g (k ∷ ks) x xs same =
    let r = some_all ks x xs in
    ap (λ (ls : List HeldLob). at_last g (add k ls)) r.2 ∙ last_add g k r.0 r.1 same ∙ ap (λ (ls : List HeldLob). add k (at_last g ls)) (sym r.2) ∙ ap (add k) (last_all g ks x xs same)

but_last_add : (k : Kind) (x : HeldLob) (xs : List HeldLob) → but_last (add k (x ∷ xs)) ≡ add k (but_last (x ∷ xs))
but_last_add (inserted n) x xs = refl
but_last_add (rebuilt n) x xs = refl
but_last_add (versioned t) x [] = refl
but_last_add (versioned t) x (y ∷ ys) = refl
but_last_add patched x xs = refl
but_last_add removed x xs = refl

pub but_last_all : (ks : List Kind) (x : HeldLob) (xs : List HeldLob) → but_last (add_all ks (x ∷ xs)) ≡ add_all ks (but_last (x ∷ xs))
but_last_all [] x xs = refl
but_last_all (k ∷ ks) x xs =
    let r = some_all ks x xs in
    ap (λ (ls : List HeldLob). but_last (add k ls)) r.2 ∙ but_last_add k r.0 r.1 ∙ ap (λ (ls : List HeldLob). add k (but_last ls)) (sym r.2) ∙ ap (add k) (but_last_all ks x xs)

-- ---- without the last piece

abbrev pub shortened : HeldLob → HeldLob
shortened h = record { version = h.version; pieces = all_but_last h.pieces }

abbrev pub lob_as : ℕ → List (List ℕ) → HeldLob
lob_as v ps = record { version = v; pieces = ps }

pieces_short : (t : List ℕ) (f : List ℕ → List ℕ) (n : ℕ) (ps : List (List ℕ)) → all_but_last (at_pieces t f n ps) ≡ at_pieces t f n (all_but_last ps)
pieces_short t f n [] = refl
pieces_short t f n (p ∷ []) = refl
pieces_short t f n (p ∷ q ∷ ps) = ap (λ (xs : List (List ℕ)). (if is_in n t then f p else p) ∷ xs) (pieces_short t f (n + 1) (q ∷ ps))

raised_short : (t : List ℕ) (l : HeldLob) → shortened (raised t l) ≡ raised t (shortened l)
raised_short t l = ap (lob_as (l.version + 1)) (pieces_short t (λ vs. (l.version + 1) ∷ vs) 1 l.pieces)

take_suc : {A : Type 0} (m : ℕ) (xs : List A) → suc m ≤ length xs → all_but_last (take (suc m) xs) ≡ take m xs
take_suc zero [] h = refl
take_suc zero (x ∷ xs) h = refl
take_suc (suc m) [] h = absurd (omega (arith, h))
take_suc (suc m) (x ∷ []) h = absurd (omega (arith, h))
take_suc (suc m) (x ∷ y ∷ xs) h = ap (λ zs. x ∷ zs) (take_suc m (y ∷ xs) (omega (arith, h)))

take_short : {A : Type 0} (m : ℕ) (xs : List A) → m ≤ length xs → all_but_last (take m xs) ≡ take (m - 1) xs
take_short zero xs h = refl
take_short (suc m) xs h = take_suc m xs h ∙ ap (λ (j : ℕ). take j xs) (let z : m ≡ suc m - 1 = omega arith in z)

cut_short : (n : ℕ) (l : HeldLob) → shortened (cut n l) ≡ cut (suc n) l
cut_short n l = ap (lob_as l.version) (take_short (length l.pieces - n) l.pieces (omega arith) ∙ ap (λ (m : ℕ). take m l.pieces) (let z : length l.pieces - n - 1 ≡ length l.pieces - suc n = omega arith in z))

-- ---- a record of the first committed log, its oldest

kind_cases : {P : Type 0} (b : Body) (k : Kind) → IsOfKind k b → Frees b → ((n : ℕ) → k ≡ rebuilt n → P) → (k ≡ removed → P) → P
kind_cases (bodies.rebuilt q) (rebuilt n) of_kind frees one other = one n refl
kind_cases (bodies.rebuilt q) (inserted n) of_kind frees one other = absurd of_kind
kind_cases (bodies.rebuilt q) (versioned t) of_kind frees one other = absurd of_kind
kind_cases (bodies.rebuilt q) patched of_kind frees one other = absurd of_kind
kind_cases (bodies.rebuilt q) removed of_kind frees one other = absurd of_kind
kind_cases bodies.removed removed of_kind frees one other = other refl
kind_cases bodies.removed (inserted n) of_kind frees one other = absurd of_kind
kind_cases bodies.removed (rebuilt n) of_kind frees one other = absurd of_kind
kind_cases bodies.removed (versioned t) of_kind frees one other = absurd of_kind
kind_cases bodies.removed patched of_kind frees one other = absurd of_kind
kind_cases (bodies.inserted q) k of_kind frees one other = absurd frees
kind_cases (bodies.versioned pieces touched) k of_kind frees one other = absurd frees
kind_cases (bodies.patched old) k of_kind frees one other = absurd frees

-- the LOB below, which such a change fits
pub below_some : {P : Type 0} (k : Kind) (b : Option HeldLob) → IsFitting k b → (k ≡ removed) ⊎ ((n : ℕ) × (k ≡ rebuilt n)) → ((x : HeldLob) → b ≡ Some x → P) → P
below_some k (Some x) fits is one = one x refl
below_some k None fits (inl is) one = absurd (cc (subst (λ (q : Kind). IsFitting q None) is fits))
below_some k None fits (inr is) one = absurd (cc (subst (λ (q : Kind). IsFitting q None) is.1 fits))

module _ (a : Address) (u : Record) (store : Store) (l : Log) (ls : List Log) (all : IsConsistent store) (first : store.committed ≡ l ∷ ls) (oldest : last_in l.records ≡ (a, u) ∷ []) where
  abbrev pub newer : List Change
  newer = changes (on_oldest passed store) u.doc

  abbrev pub c : Change
  c = change l.trx a u

  abbrev pub row : Row
  row = row_before store u.doc

  abbrev pub page : ℕ
  page = u.before.lob.page

  -- the pages of the LOBs in front of what the record owns
  abbrev pub front : List ℕ
  front = owned_if row.state row.lob.page ++ change_lobs newer

  pub was : changes store u.doc ≡ newer ++ c ∷ []
  was = passed_changes u.doc store l ls first ∙ ap (λ (cs : List Change). newer ++ cs) (ap (Rattle.store_model.specs.History.changes_among u.doc l.trx) oldest ∙ among_this u.doc l.trx a u [] refl)

  pub pages_are : lob_pages store u.doc ≡ front ++ owned_by u.body u.before
  pages_are =
      ap (λ (cs : List Change). owned_if row.state row.lob.page ++ change_lobs cs) was
      ∙ ap (λ (ps : List ℕ). owned_if row.state row.lob.page ++ ps) (lobs_both newer (c ∷ []) ∙ ap (λ (ps : List ℕ). change_lobs newer ++ ps) (append-nil (owned_by u.body u.before)))
      ∙ sym (append_assoc (owned_if row.state row.lob.page) (change_lobs newer) (owned_by u.body u.before))

  module _ (frees : Frees u.body) (m : Lob) (there : lob_of store.lobs page ≡ Some m) where
    its_page : owned_by u.body u.before ≡ page ∷ []
    its_page = by_body u.body frees
      where
        by_body : (b : Body) → Frees b → owned_by b u.before ≡ page ∷ []
        by_body (bodies.inserted q) h = absurd h
        by_body (bodies.rebuilt q) h = refl
        by_body (bodies.versioned pieces touched) h = absurd h
        by_body (bodies.patched old) h = absurd h
        by_body bodies.removed h = refl

    pub front_off : IsNotAmong page front
    front_off =
        let b = before_freed a u store l ls all.well first oldest frees in
        let f = front_elsewhere row newer c [] (pass_chain a u store l ls all.well first oldest) b.1 b.0 in
        both_not page (owned_if row.state row.lob.page) (change_lobs newer) (one_not page row.state row.lob.page f.0)
        (changes_not page row newer (chain_front row newer (c ∷ []) (pass_chain a u store l ls all.well first oldest)) f.1)

    pub other_off : (q : ℕ) → q ≢ u.doc → IsNotAmong page (lob_pages store q)
    other_off q other = doc_not page store q all.well (before_elsewhere a u store l ls all.well first oldest q (λ g. other (sym g)) (before_freed a u store l ls all.well first oldest frees).0)

    pub old_list : lob_list store u.doc ≡ held_lobs store.lobs front ++ held_lob m ∷ []
    old_list = ap (held_lobs store.lobs) (pages_are ∙ ap (λ (ps : List ℕ). front ++ ps) its_page) ∙ held_both store.lobs front (page ∷ [])
        ∙ ap (λ (o : Option Lob). held_lobs store.lobs front ++ (map held_lob (option_to_list o) ++ [])) there

    stays : (f : Lob → Lob) → ((x : Lob) → (f x).page ≡ x.page) → (q : ℕ) → q ≢ page → lob_of (on_lob page f store.lobs) q ≡ lob_of store.lobs q
    stays f same q other = lob-on_other q page f store.lobs same other

    new_list : (f : Lob → Lob) → ((x : Lob) → (f x).page ≡ x.page) → lob_list (on_lobs (on_lob page f) store) u.doc ≡ held_lobs store.lobs front ++ held_lob (f m) ∷ []
    new_list f same = ap (held_lobs (on_lob page f store.lobs)) (pages_are ∙ ap (λ (ps : List ℕ). front ++ ps) its_page) ∙ held_both (on_lob page f store.lobs) front (page ∷ [])
        ∙ ap₂ (λ (xs : List HeldLob) (o : Option Lob). xs ++ (map held_lob (option_to_list o) ++ [])) (held_same page store.lobs (on_lob page f store.lobs) front (stays f same) front_off)
        (lob-on_this page f store.lobs same ∙ ap (Rattle.std.proofs.Common.option_map f) there)

    keeps : (f : Lob → Lob) → ((x : Lob) → (f x).page ≡ x.page) → (q : ℕ) → q ≢ u.doc → KeepsLobs store (on_lobs (on_lob page f) store) q
    keeps f same q other = record { changes = refl; lobs = held_same page store.lobs (on_lob page f store.lobs) (lob_pages store q) (stays f same) (other_off q other) }

    -- what is below is cut: the last piece of the last LOB
    cut_of : (ks : List Kind) (k : Kind) (gone : List ℕ) (x : HeldLob) → (k ≡ removed) ⊎ ((n : ℕ) × (k ≡ rebuilt n))
        → at_last shortened (add_all ks (half_drop gone k (add k (x ∷ [])))) ≡ add_all ks (half_drop (0 ∷ gone) k (add k (x ∷ [])))
    cut_of ks k gone x (inl is) = subst (λ (q : Kind). at_last shortened (add_all ks (half_drop gone q (add q (x ∷ [])))) ≡ add_all ks (half_drop (0 ∷ gone) q (add q (x ∷ [])))) (sym is)
        (last_all shortened ks (cut (length gone) x) [] raised_short ∙ ap (λ (h : HeldLob). add_all ks (h ∷ [])) (cut_short (length gone) x))
    cut_of ks k gone x (inr is) = subst (λ (q : Kind). at_last shortened (add_all ks (half_drop gone q (add q (x ∷ [])))) ≡ add_all ks (half_drop (0 ∷ gone) q (add q (x ∷ [])))) (sym is.1)
        (last_all shortened ks (new_lob is.0) (cut (length gone) x ∷ []) raised_short ∙ ap (λ (h : HeldLob). add_all ks (new_lob is.0 ∷ h ∷ [])) (cut_short (length gone) x))

    more_gone : (k : Kind) (gone : List ℕ) → (k ≡ removed) ⊎ ((n : ℕ) × (k ≡ rebuilt n)) → IsDropped (0 ∷ gone) k
    more_gone k gone (inl is) = subst (IsDropped (0 ∷ gone)) (sym is) tt
    more_gone k gone (inr is) = subst (IsDropped (0 ∷ gone)) (sym is.1) tt

    pub which : (k : Kind) → IsOfKind k u.body → (k ≡ removed) ⊎ ((n : ℕ) × (k ≡ rebuilt n))
    which k of_kind = kind_cases u.body k of_kind frees (λ n is. inr (n, is)) (λ is. inl is)

    piece_list : (free : List Address) → lob_list (on_lobs (on_lob page (λ x. record (without_piece x) { free = free })) store) u.doc ≡ at_last shortened (lob_list store u.doc)
    piece_list free = new_list (λ x. record (without_piece x) { free = free }) (λ x. refl)
        ∙ ap (λ (ps : List (List ℕ)). held_lobs store.lobs front ++ lob_as m.version ps ∷ []) (map_but_last numbers_of m.pieces)
        ∙ sym (last_of_list shortened (held_lobs store.lobs front) (held_lob m)) ∙ ap (at_last shortened) (sym old_list)

    cut_lobs : (ks : List Kind) (k : Kind) (gone : List ℕ) (b : Option HeldLob) (old : List HeldLob) → AreLobs newer c ks k gone b old → AreLobs newer c ks k (0 ∷ gone) b (at_last shortened old)
    cut_lobs ks k gone b old g = record {
      sorts = g.sorts;
      kind = g.kind;
      fits = g.fits;
      base = g.base;
      gone_of = more_gone k gone (which k g.kind);
      are = below_some k b g.fits (which k g.kind) (λ x is. (ap (at_last shortened) (g.are ∙ ap (λ (o : Option HeldLob). add_all ks (half_drop gone k (add k (option_to_list o)))) is)
          ∙ cut_of ks k gone x (which k g.kind) ∙ ap (λ (o : Option HeldLob). add_all ks (half_drop (0 ∷ gone) k (add k (option_to_list o)))) (sym is)));
    }

    pub piece_drops : (free : List Address) → DropsLobs l u.doc store (on_lobs (on_lob page (λ x. record (without_piece x) { free = free })) store)
    piece_drops free = record {
      newer = newer;
      oldest = c;
      was = was;
      mine = refl;
      changes = refl;
      step = λ ks k gone b g. (0 ∷ gone, subst (AreLobs newer c ks k (0 ∷ gone) b) (sym (piece_list free)) (cut_lobs ks k gone b (lob_list store u.doc) g));
      others = keeps (λ x. record (without_piece x) { free = free }) (λ x. refl);
    }

    pub index_drops : DropsLobs l u.doc store (on_lobs (on_lob page without_index) store)
    index_drops = record {
      newer = newer;
      oldest = c;
      was = was;
      mine = refl;
      changes = refl;
      step = λ ks k gone b g. (gone, subst (AreLobs newer c ks k gone b) (sym (new_list without_index (λ x. refl) ∙ sym old_list)) g);
      others = keeps without_index (λ x. refl);
    }
