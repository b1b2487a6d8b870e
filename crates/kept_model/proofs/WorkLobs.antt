-- What the further events of a change do to the LOBs of documents, and those that undo a record but
-- its last.
use Rattle.std.proofs.Common.{◌≡◌, ◌≢◌, ℕ, suc, ◌+◌, ◌≤◌, Bool, true, false, List, [], ◌∷◌, ◌++◌, map, length, Some, option_map, refl, sym, ap, ap₂, subst, ◌∙◌, arith, if◌then◌else◌}
use Rattle.std.proofs.lemmas.List.{append_assoc}
use Rattle.page_model.specs.Pages.{Address}
use Rattle.journal_model.specs.Held.{Kind, inserted, rebuilt, versioned, patched, removed, HeldLob, is_in, at_pieces, at_first, new_lob, raised, add}
use Rattle.store_data.specs.Store.{live, Version, Piece, Lob, Body, Store}
use Rattle.store_data.specs.Store as bodies
use Rattle.store_data.specs.Pieces.{pushed, popped}
use Rattle.store_model.specs.Lobs.{lob_of}
use Rattle.store_model.specs.History.{Change, changes, row_before}
use Rattle.store_model.specs.Steps.{on_lob, on_lobs, with_nodes, with_piece, without_piece, without_index, at_piece}
use Rattle.store_model.specs.Keeps.{IsVersioned, Makes}
use Rattle.store_model.specs.Owned.{AreDifferent}
use Rattle.store_model.specs.Takes.{piece_of}
use Rattle.store_model.specs.Consistent.{IsConsistent}
use Rattle.store_model.proofs.LobLemmas.{lob-on_other}
use Rattle.store_model.proofs.GivesLemmas.{made_live, version_live}
use Rattle.kept_model.specs.Engine.{Left}
use Rattle.kept_model.specs.Held.{numbers_of, held_lob, lob_list, pieces_left, pushes_left, part_kind, IsPart, IsRest, IsOfKind}
use Rattle.kept_model.specs.Pages.{AllUpTo, AreOld, WorksLobs, HalvesLobs}
use Rattle.kept_model.proofs.StoredLemmas.{map_append}
use Rattle.kept_model.proofs.OwnLemmas.{version_there}
use Rattle.kept_model.proofs.NumberLists.{on_nth, nth, without_newest, numbers_on, nth_numbers, numbers_popped, removed_from, in_removed, push_at, pop_at, not_in, nth_at, nth_below, one_more, one_fewer, map_but_last}
use Rattle.kept_model.proofs.LobLists.{others_keep, live_list, first_changes}

-- ---- kinds that make a LOB, and that make versions

pub made_kind : {P : Type 0} (page : ℕ) (b : Body) (k : Kind) → IsOfKind k b → Makes page b → ((n : ℕ) → k ≡ inserted n → P) → ((n : ℕ) → k ≡ rebuilt n → P) → P
made_kind page (bodies.inserted q) (inserted n) of_kind makes one other = one n refl
made_kind page (bodies.inserted q) (rebuilt n) of_kind makes one other = absurd of_kind
made_kind page (bodies.inserted q) (versioned t) of_kind makes one other = absurd of_kind
made_kind page (bodies.inserted q) patched of_kind makes one other = absurd of_kind
made_kind page (bodies.inserted q) removed of_kind makes one other = absurd of_kind
made_kind page (bodies.rebuilt q) (inserted n) of_kind makes one other = absurd of_kind
made_kind page (bodies.rebuilt q) (rebuilt n) of_kind makes one other = other n refl
made_kind page (bodies.rebuilt q) (versioned t) of_kind makes one other = absurd of_kind
made_kind page (bodies.rebuilt q) patched of_kind makes one other = absurd of_kind
made_kind page (bodies.rebuilt q) removed of_kind makes one other = absurd of_kind
made_kind page (bodies.versioned pieces touched) k of_kind makes one other = absurd makes
made_kind page (bodies.patched old) k of_kind makes one other = absurd makes
made_kind page bodies.removed k of_kind makes one other = absurd makes

pub versioned_kind : {P : Type 0} (b : Body) (k : Kind) → IsOfKind k b → IsVersioned b → ((t : List ℕ) → k ≡ versioned t → P) → P
versioned_kind (bodies.versioned pieces touched) (versioned t) of_kind v one = one t refl
versioned_kind (bodies.versioned pieces touched) (inserted n) of_kind v one = absurd of_kind
versioned_kind (bodies.versioned pieces touched) (rebuilt n) of_kind v one = absurd of_kind
versioned_kind (bodies.versioned pieces touched) patched of_kind v one = absurd of_kind
versioned_kind (bodies.versioned pieces touched) removed of_kind v one = absurd of_kind
versioned_kind (bodies.inserted q) k of_kind v one = absurd v
versioned_kind (bodies.rebuilt q) k of_kind v one = absurd v
versioned_kind (bodies.patched old) k of_kind v one = absurd v
versioned_kind bodies.removed k of_kind v one = absurd v

abbrev lob_as : ℕ → List (List ℕ) → HeldLob
lob_as v ps = record { version = v; pieces = ps }

-- ---- the LOB that a change makes

module _ (store : Store) (d : ℕ) (c : Change) (cs : List Change) (all : IsConsistent store) (e : changes store d ≡ c ∷ cs) (page : ℕ) (makes : Makes page c.undo.body) (m : Lob) (there : lob_of store.lobs page ≡ Some m) where
  -- a piece is added
  module _ (left more : Left) (piece : Piece) (index : List ℕ) (free : List Address) (number : piece.head.number ≡ 1) (none : piece.older ≡ []) (rests : pieces_left left ≡ suc (pieces_left more)) where
    abbrev added : Lob → Lob
    added l = with_nodes index free (with_piece piece l)

    abbrev appended : HeldLob → HeldLob
    appended h = record { version = h.version; pieces = h.pieces ++ (1 ∷ []) ∷ [] }

    its_numbers : numbers_of piece ≡ 1 ∷ []
    its_numbers = ap₂ (λ (n : ℕ) (vs : List Version). n ∷ map (λ (v : Version). v.number) vs) number none

    list_is : lob_list (on_lobs (on_lob page added) store) d ≡ at_first appended (lob_list store d)
    list_is =
        let live_row = made_live store d page c cs all.well e makes in
        first_changes store d page added appended m all.well live_row.0 live_row.1 there (λ l. refl)
        (ap (lob_as m.version) (map_append numbers_of m.pieces (piece ∷ []) ∙ ap (λ (x : List ℕ). map numbers_of m.pieces ++ x ∷ []) its_numbers))

    longer : (done : List ℕ) (xs : List HeldLob) → lob_list store d ≡ new_lob (length done) ∷ xs → lob_list (on_lobs (on_lob page added) store) d ≡ new_lob (suc (length done)) ∷ xs
    longer done xs was = list_is ∙ ap (at_first appended) was ∙ ap (λ (ps : List (List ℕ)). lob_as 1 ps ∷ xs) (one_more (length done))

    one_less : (done : List ℕ) (n : ℕ) → length done + pieces_left left ≡ n → suc (length done) + pieces_left more ≡ n
    one_less done n h = omega (arith, h, rests)

    pub piece_goes_on : WorksLobs d left more store (on_lobs (on_lob page added) store)
    piece_goes_on = record {
      change = c;
      older = cs;
      was = e;
      changes = refl;
      step = λ k done xs of_kind rest was. made_kind page c.undo.body k of_kind makes
          (λ n is. (
            0 ∷ done,
            subst (IsRest more (0 ∷ done)) (sym is) (one_less done n (subst (IsRest left done) is rest)),
            longer done xs (was ∙ ap (λ (q : Kind). add (part_kind done q) xs) is) ∙ ap (λ (q : Kind). add (part_kind (0 ∷ done) q) xs) (sym is),
          ))
          (λ n is. (
            0 ∷ done,
            subst (IsRest more (0 ∷ done)) (sym is) (one_less done n (subst (IsRest left done) is rest)),
            longer done xs (was ∙ ap (λ (q : Kind). add (part_kind done q) xs) is) ∙ ap (λ (q : Kind). add (part_kind (0 ∷ done) q) xs) (sym is),
          ));
      others = λ q other. (let live_row = made_live store d page c cs all.well e makes in
          others_keep store d page (on_lob page added) all.well live_row.0 live_row.1 (λ r apart. lob-on_other r page added store.lobs (λ l. refl) apart) q other);
    }

  -- its last piece is freed
  module _ (trx : ℕ) (mine : c.trx ≡ trx) (free : List Address) where
    abbrev freed : Lob → Lob
    freed l = record (without_piece l) { free = free }

    abbrev shortened : HeldLob → HeldLob
    shortened h = record { version = h.version; pieces = Rattle.store_data.specs.Pieces.all_but_last h.pieces }

    short_is : lob_list (on_lobs (on_lob page freed) store) d ≡ at_first shortened (lob_list store d)
    short_is =
        let live_row = made_live store d page c cs all.well e makes in
        first_changes store d page freed shortened m all.well live_row.0 live_row.1 there (λ l. refl) (ap (lob_as m.version) (map_but_last numbers_of m.pieces))

    fewer : (done : List ℕ) (n : ℕ) (xs : List HeldLob) → length done ≤ n → lob_list store d ≡ new_lob (length done) ∷ xs
        → (now : List ℕ) × (length now ≤ n) × (lob_list (on_lobs (on_lob page freed) store) d ≡ new_lob (length now) ∷ xs)
    fewer [] n xs few was = ([], few, short_is ∙ ap (at_first shortened) was)
    fewer (x ∷ done) n xs few was = (done, (let h : suc (length done) ≤ n = few in omega (arith, h)), short_is ∙ ap (at_first shortened) was ∙ ap (λ (ps : List (List ℕ)). lob_as 1 ps ∷ xs) (one_fewer (length done)))

    pub piece_halves : HalvesLobs trx d store (on_lobs (on_lob page freed) store)
    piece_halves = record {
      change = c;
      older = cs;
      was = e;
      mine = mine;
      changes = refl;
      step = λ k done xs of_kind part old was. made_kind page c.undo.body k of_kind makes
          (λ n is. (let r = fewer done n xs (subst (IsPart done) is part) (was ∙ ap (λ (q : Kind). add (part_kind done q) xs) is) in
          (r.0, subst (IsPart r.0) (sym is) r.1, r.2 ∙ ap (λ (q : Kind). add (part_kind r.0 q) xs) (sym is))))
          (λ n is. (let r = fewer done n xs (subst (IsPart done) is part) (was ∙ ap (λ (q : Kind). add (part_kind done q) xs) is) in
          (r.0, subst (IsPart r.0) (sym is) r.1, r.2 ∙ ap (λ (q : Kind). add (part_kind r.0 q) xs) (sym is))));
      others = λ q other. (let live_row = made_live store d page c cs all.well e makes in
          others_keep store d page (on_lob page freed) all.well live_row.0 live_row.1 (λ r apart. lob-on_other r page freed store.lobs (λ l. refl) apart) q other);
    }

  -- an index page is freed
  module _ (trx : ℕ) (mine : c.trx ≡ trx) where
    first_same : (xs : List HeldLob) → at_first (λ h. h) xs ≡ xs
    first_same [] = refl
    first_same (x ∷ xs) = refl

    pub index_halves : HalvesLobs trx d store (on_lobs (on_lob page without_index) store)
    index_halves =
        let live_row = made_live store d page c cs all.well e makes in
        let same : lob_list (on_lobs (on_lob page without_index) store) d ≡ lob_list store d = first_changes store d page without_index (λ h. h) m all.well live_row.0 live_row.1 there (λ l. refl) refl ∙ first_same (lob_list store d) in
        record {
          change = c;
          older = cs;
          was = e;
          mine = mine;
          changes = refl;
          step = λ k done xs of_kind part old was. (done, part, same ∙ was);
          others = λ q other. others_keep store d page (on_lob page without_index) all.well live_row.0 live_row.1 (λ r apart. lob-on_other r page without_index store.lobs (λ l. refl) apart) q other;
        }

-- ---- the LOB that a change has raised

module _ (store : Store) (d : ℕ) (c : Change) (cs : List Change) (all : IsConsistent store) (e : changes store d ≡ c ∷ cs) (is_versioned : IsVersioned c.undo.body)
    (m : Lob) (there : lob_of store.lobs (row_before store d).lob.page ≡ Some m) (j : ℕ) (free : List Address) where
  is_live : (row_before store d).state ≡ live
  is_live = version_live store d c cs all.well e is_versioned

  -- the first LOB is the raised one
  pub first_is : (t : List ℕ) (xs : List HeldLob) → lob_list store d ≡ at_first (raised t) xs → (x : HeldLob) × (ys : List HeldLob) × (xs ≡ x ∷ ys) × (held_lob m ≡ raised t x)
  first_is t [] was = absurd (cc (sym (live_list store d m is_live there) ∙ was))
  first_is t (x ∷ ys) was = (x, ys, refl, cc (sym (live_list store d m is_live there) ∙ was))

  -- a version is pushed
  module _ (left more : Left) (node : Address) (v : Version) (index : List ℕ) (number : v.number ≡ (row_before store d).lob.version) (rests : pushes_left left ≡ suc j ∷ pushes_left more) where
    abbrev grown : Lob → Lob
    grown l = with_nodes index free (at_piece j (pushed node v) l)

    abbrev gained : HeldLob → HeldLob
    gained h = record { version = h.version; pieces = on_nth j (λ vs. v.number ∷ vs) h.pieces }

    grown_is : lob_list (on_lobs (on_lob (row_before store d).lob.page grown) store) d ≡ at_first gained (lob_list store d)
    grown_is = first_changes store d (row_before store d).lob.page grown gained m all.well is_live refl there (λ l. refl)
        (ap (lob_as m.version) (numbers_on j (pushed node v) (λ vs. v.number ∷ vs) m.pieces (λ p. refl)))

    step_of : (t done : List ℕ) (xs : List HeldLob) → (done ++ pushes_left left ≡ t) → AreDifferent t → lob_list store d ≡ at_first (raised done) xs
        → (done ++ suc j ∷ []) ++ pushes_left more ≡ t × (lob_list (on_lobs (on_lob (row_before store d).lob.page grown) store) d ≡ at_first (raised (done ++ suc j ∷ [])) xs)
    step_of t done xs rest different was =
        let f = first_is done xs was in
        let split : done ++ suc j ∷ pushes_left more ≡ t = ap (λ (ys : List ℕ). done ++ ys) (sym rests) ∙ rest in
        let off : is_in (1 + j) done ≡ false = ap (λ (n : ℕ). is_in n done) (let z : 1 + j ≡ suc j = omega arith in z) ∙ not_in (suc j) done (pushes_left more) (subst AreDifferent (sym split) different) in
        let v_is : v.number ≡ f.0.version + 1 = number ∙ sym (version_there store d m all is_live there) ∙ ap (λ (h : HeldLob). h.version) f.3 in
        let pushed_is : on_nth j (λ vs. v.number ∷ vs) (at_pieces done (λ vs. (f.0.version + 1) ∷ vs) 1 f.0.pieces) ≡ at_pieces (done ++ suc j ∷ []) (λ vs. (f.0.version + 1) ∷ vs) 1 f.0.pieces =
        ap (λ (n : ℕ). on_nth j (λ vs. n ∷ vs) (at_pieces done (λ vs. (f.0.version + 1) ∷ vs) 1 f.0.pieces)) v_is ∙ push_at j 1 (f.0.version + 1) done f.0.pieces off
        ∙ ap (λ (n : ℕ). at_pieces (done ++ n ∷ []) (λ vs. (f.0.version + 1) ∷ vs) 1 f.0.pieces) (let z : 1 + j ≡ suc j = omega arith in z) in (
          append_assoc done (suc j ∷ []) (pushes_left more) ∙ split,
          grown_is ∙ ap (at_first gained) (was ∙ ap (at_first (raised done)) f.2) ∙ ap (λ (ps : List (List ℕ)). lob_as (f.0.version + 1) ps ∷ f.1) pushed_is
              ∙ ap (at_first (raised (done ++ suc j ∷ []))) (sym f.2),
        )

    pub push_goes_on : WorksLobs d left more store (on_lobs (on_lob (row_before store d).lob.page grown) store)
    push_goes_on = record {
      change = c;
      older = cs;
      was = e;
      changes = refl;
      step = λ k done xs of_kind rest was. versioned_kind c.undo.body k of_kind is_versioned (λ t is.
          (let was_rest : IsRest left done (versioned t) = subst (IsRest left done) is rest in
          let r = step_of t done xs was_rest.0 was_rest.1 (was ∙ ap (λ (q : Kind). add (part_kind done q) xs) is) in
          (done ++ suc j ∷ [], subst (IsRest more (done ++ suc j ∷ [])) (sym is) (r.0, was_rest.1), r.1 ∙ ap (λ (q : Kind). add (part_kind (done ++ suc j ∷ []) q) xs) (sym is))));
      others = λ q other. others_keep store d (row_before store d).lob.page (on_lob (row_before store d).lob.page grown) all.well is_live refl
          (λ r apart. lob-on_other r (row_before store d).lob.page grown store.lobs (λ l. refl) apart) q other;
    }

  -- a version is popped: it is the raised one, and another is left
  module _ (trx : ℕ) (mine : c.trx ≡ trx) (p : Piece) (x : Version) (older : List Version) (kth : piece_of j m.pieces ≡ Some p) (some : p.older ≡ x ∷ older) (raised_one : p.head.number ≡ (row_before store d).lob.version) where
    abbrev shrunk : Lob → Lob
    shrunk l = record (at_piece j popped l) { free = free }

    abbrev lost : HeldLob → HeldLob
    lost h = record { version = h.version; pieces = on_nth j without_newest h.pieces }

    shrunk_is : lob_list (on_lobs (on_lob (row_before store d).lob.page shrunk) store) d ≡ at_first lost (lob_list store d)
    shrunk_is = first_changes store d (row_before store d).lob.page shrunk lost m all.well is_live refl there (λ l. refl)
        (ap (lob_as m.version) (numbers_on j popped without_newest m.pieces numbers_popped))

    has_it : (done : List ℕ) (h : HeldLob) → held_lob m ≡ raised done h → Rattle.kept_model.specs.Pages.AreBelow h.version h.pieces → (q : List ℕ) → nth j h.pieces ≡ Some q → (is_in (1 + j) done ≡ true) × (q ≢ [])
    has_it done h is low q at = by_test (is_in (1 + j) done) refl
      where
        v_is : p.head.number ≡ h.version + 1
        v_is = raised_one ∙ sym (version_there store d m all is_live there) ∙ ap (λ (l : HeldLob). l.version) is

        shows : option_map (λ (ns : List ℕ). if is_in (1 + j) done then (h.version + 1) ∷ ns else ns) (Some q) ≡ Some (p.head.number ∷ x.number ∷ map (λ (w : Version). w.number) older)
        shows =
            sym (nth_at j 1 done (λ vs. (h.version + 1) ∷ vs) h.pieces ∙ ap (option_map (λ (ns : List ℕ). if is_in (1 + j) done then (h.version + 1) ∷ ns else ns)) at)
            ∙ ap (λ (l : HeldLob). nth j l.pieces) (sym is) ∙ nth_numbers j m.pieces p kth ∙ ap (λ (vs : List Version). Some (p.head.number ∷ map (λ (w : Version). w.number) vs)) some

        high : AllUpTo h.version (p.head.number ∷ x.number ∷ map (λ (w : Version). w.number) older) → ⊥
        high g = let up : p.head.number ≤ h.version = g.0 in omega (arith, up, v_is)

        by_test : (b : Bool) → is_in (1 + j) done ≡ b → (is_in (1 + j) done ≡ true) × (q ≢ [])
        by_test true in_it = (
          in_it,
          λ none.
              let now : Some ((h.version + 1) ∷ []) ≡ Some (p.head.number ∷ x.number ∷ map (λ (w : Version). w.number) older) =
              ap₂ (λ (b : Bool) (ns : List ℕ). Some (if b then (h.version + 1) ∷ ns else ns)) (sym in_it) (sym none) ∙ shows in absurd (cc now),
        )
        by_test false out =
            let now : Some q ≡ Some (p.head.number ∷ x.number ∷ map (λ (w : Version). w.number) older) = ap (λ (b : Bool). Some (if b then (h.version + 1) ∷ q else q)) (sym out) ∙ shows in
            let same : q ≡ p.head.number ∷ x.number ∷ map (λ (w : Version). w.number) older = cc now in
            absurd (high (subst (AllUpTo h.version) same (nth_below j h.version h.pieces q low at)))

    pop_step : (t done : List ℕ) (xs : List HeldLob) → AreOld xs → lob_list store d ≡ at_first (raised done) xs
        → lob_list (on_lobs (on_lob (row_before store d).lob.page shrunk) store) d ≡ at_first (raised (removed_from (1 + j) done)) xs
    pop_step t done xs old was =
        let f = first_is done xs was in
        let low = (subst AreOld f.2 old).0 in
        shrunk_is ∙ ap (at_first lost) (was ∙ ap (at_first (raised done)) f.2)
        ∙ ap (λ (ps : List (List ℕ)). lob_as (f.0.version + 1) ps ∷ f.1) (pop_at j 1 (f.0.version + 1) done f.0.pieces (has_it done f.0 f.3 low))
        ∙ ap (at_first (raised (removed_from (1 + j) done))) (sym f.2)

    pub pop_halves : HalvesLobs trx d store (on_lobs (on_lob (row_before store d).lob.page shrunk) store)
    pop_halves = record {
      change = c;
      older = cs;
      was = e;
      mine = mine;
      changes = refl;
      step = λ k done xs of_kind part old was. versioned_kind c.undo.body k of_kind is_versioned (λ t is.
          (let was_part : IsPart done (versioned t) = subst (IsPart done) is part in (
            removed_from (1 + j) done,
            subst (IsPart (removed_from (1 + j) done)) (sym is) (λ n h. was_part n (in_removed n (1 + j) done h)),
            pop_step t done xs old (was ∙ ap (λ (q : Kind). add (part_kind done q) xs) is) ∙ ap (λ (q : Kind). add (part_kind (removed_from (1 + j) done) q) xs) (sym is),
          )));
      others = λ q other. others_keep store d (row_before store d).lob.page (on_lob (row_before store d).lob.page shrunk) all.well is_live refl
          (λ r apart. lob-on_other r (row_before store d).lob.page shrunk store.lobs (λ l. refl) apart) q other;
    }
