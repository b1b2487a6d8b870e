-- An oldest version is dropped, and the record that made versions is passed, of a store.
use Rattle.std.proofs.Common.{◌≡◌, inl, inr, ◌⊎◌, ℕ, zero, suc, ◌+◌, ◌≤◌, ◌<◌, Bool, true, false, true≢false, nat_eq, List, [], ◌∷◌, ◌++◌, map, Option, Some, None, is_some, option_map, option_to_list, refl, sym, ap, ap₂, subst, ◌∙◌, arith, if◌then◌else◌, ◌||◌}
use Rattle.page_model.specs.Pages.{Address}
use Rattle.journal_model.specs.Held.{Kind, HeldLob, is_in, at_pieces, but_last, raised, add, add_all}
use Rattle.journal_model.specs.History.{last_of, lob_behind}
use Rattle.store_data.specs.Store.{Piece, Lob, Body, Record, Log, Store}
use Rattle.store_data.specs.Store as bodies
use Rattle.store_data.specs.Pieces.{dropped}
use Rattle.store_model.specs.Lobs.{lob_of}
use Rattle.store_model.specs.Steps.{last_in, on_lob, on_lobs, at_piece}
use Rattle.store_model.specs.Undo.{cleared, record_passed}
use Rattle.store_model.specs.Owned.{owned_by}
use Rattle.store_model.specs.Takes.{piece_of}
use Rattle.store_model.specs.Consistent.{IsConsistent}
use Rattle.store_model.proofs.LobLemmas.{lob-on_this, lob-on_other}
use Rattle.store_model.proofs.GivesLemmas.{before_elsewhere}
use Rattle.kept_model.specs.Held.{numbers_of, held_lob, held_lobs, lob_pages, lob_list, half_drop, IsDropped}
use Rattle.kept_model.specs.Pages.{AllUpTo, DropsLobs, PassesLobs}
use Rattle.kept_model.proofs.NumberLists.{on_nth, nth, numbers_on, nth_numbers, nth_at, nth_below}
use Rattle.kept_model.proofs.LobLists.{doc_not, held_same}
use Rattle.kept_model.proofs.PassEnds.{kept_passes}
use Rattle.kept_model.proofs.VersionLobs.{same_ends, below_all, without_oldest, numbers_dropped, IsSome1, IsTwo, last_more, without_more, more_at, single_at, all_thin, thin, piece_of_thin, nth_thin, gone_last, kept_last, some_thin, two_thin, lob_as}
use Rattle.kept_model.proofs.VersionPurge as its

-- ---- lists of numbers

nth_piece : (j : ℕ) (ps : List Piece) (q : List ℕ) → nth j (map numbers_of ps) ≡ Some q → (p : Piece) × (piece_of j ps ≡ Some p)
nth_piece j [] q e = absurd (cc e)
nth_piece zero (p ∷ ps) q e = (p, refl)
nth_piece (suc j) (p ∷ ps) q e = nth_piece j ps q e

some_of : (o : Option (List ℕ)) → is_some o ≡ true → (q : List ℕ) × (o ≡ Some q)
some_of None h = absurd (true≢false (sym h))
some_of (Some q) h = (q, refl)

map_some : (f : List ℕ → List ℕ) (o : Option (List ℕ)) (q : List ℕ) → option_map f o ≡ Some q → (p : List ℕ) × (o ≡ Some p) × (f p ≡ q)
map_some f None q e = absurd (cc e)
map_some f (Some p) q e = (p, refl, cc e)

some_map : (f : List ℕ → List ℕ) (o : Option (List ℕ)) → is_some (option_map f o) ≡ is_some o
some_map f None = refl
some_map f (Some p) = refl

in_either : (n x : ℕ) (done : List ℕ) → is_in n (done ++ x ∷ []) ≡ true → (is_in n done ≡ true) ⊎ (nat_eq x n ≡ true)
in_either n x [] h = inr (or_false (nat_eq x n) h)
  where
    or_false : (b : Bool) → (b || false) ≡ true → b ≡ true
    or_false true g = refl
    or_false false g = g
in_either n x (d ∷ ds) h = by_test (nat_eq d n) h (in_either n x ds)
  where
    by_test : (b : Bool) → (b || is_in n (ds ++ x ∷ [])) ≡ true → (is_in n (ds ++ x ∷ []) ≡ true → (is_in n ds ≡ true) ⊎ (nat_eq x n ≡ true)) → ((b || is_in n ds) ≡ true) ⊎ (nat_eq x n ≡ true)
    by_test true g rest = inl refl
    by_test false g rest = rest g

-- a new version in front, and an old one dropped behind
comm_at : (j n v : ℕ) (t : List ℕ) (ps : List (List ℕ)) → ((q : List ℕ) → nth j ps ≡ Some q → IsTwo q)
    → at_pieces t (λ vs. v ∷ vs) n (on_nth j without_oldest ps) ≡ on_nth j without_oldest (at_pieces t (λ vs. v ∷ vs) n ps)
comm_at j n v t [] two = refl
comm_at zero n v t (p ∷ ps) two = ap (λ (q : List ℕ). q ∷ at_pieces t (λ vs. v ∷ vs) (n + 1) ps) (by_test (is_in n t))
  where
    by_test : (b : Bool) → (if b then v ∷ without_oldest p else without_oldest p) ≡ without_oldest (if b then v ∷ p else p)
    by_test true = without_more v p (two p refl)
    by_test false = refl
comm_at (suc j) n v t (p ∷ ps) two = ap (λ (qs : List (List ℕ)). (if is_in n t then v ∷ p else p) ∷ qs) (comm_at j (n + 1) v t ps two)

two_more : (v : ℕ) (q : List ℕ) → IsTwo q → IsTwo (v ∷ q)
two_more v [] h = absurd h
two_more v (n ∷ []) h = absurd h
two_more v (n ∷ m ∷ ns) h = tt

module _ (a : Address) (u : Record) (store : Store) (l : Log) (ls : List Log) (all : IsConsistent store) (first : store.committed ≡ l ∷ ls) (oldest : last_in l.records ≡ (a, u) ∷ [])
    (pieces : ℕ) (touched : List ℕ) (body_is : u.body ≡ bodies.versioned pieces touched) (m : Lob) (there : lob_of store.lobs u.before.lob.page ≡ Some m) where
  abbrev t : List ℕ
  t = map suc touched

  abbrev IsThin : List Kind → Kind → List ℕ → Option HeldLob → Type 0
  IsThin = its.IsThin a u store l ls all first oldest pieces touched body_is m there

  module _ (ks : List Kind) (k : Kind) (gone : List ℕ) (b : Option HeldLob) (h : IsThin ks k gone b) where
    abbrev z : HeldLob
    z = thin h.base h.its.0 h.its.1 t gone

    abbrev at : ℕ → List ℕ → List ℕ
    at j = piece_of_thin h.base h.its.0 h.its.1 t gone j

    -- of the j-th piece: whether it is there, and its oldest version
    record IsLike (j : ℕ) (x : HeldLob) : Type 0 where
      stands : is_some (nth j x.pieces) ≡ is_some (nth j z.pieces)
      last : (q : List ℕ) → nth j x.pieces ≡ Some q → IsSome1 q × (option_map last_of (nth j z.pieces) ≡ Some (last_of q))

    z_like : (j : ℕ) → IsLike j z
    z_like j = record {
      stands = refl;
      last = λ q e. (some_q q e, ap (option_map last_of) e);
    }
      where
        some_q : (q : List ℕ) → nth j z.pieces ≡ Some q → IsSome1 q
        some_q q e =
            let p = map_some (at j) (nth j h.base.pieces) q (sym (nth_thin h.base h.its.0 h.its.1 t gone j) ∙ e) in
            let w = single_at j h.base.pieces p.0 h.its.0 p.1 in
            subst IsSome1 (ap (at j) (sym w.1) ∙ p.2) (some_thin h.base h.its.0 h.its.1 t gone j w.0 (h.sub (1 + j)))

    like_raised : (j : ℕ) (s : List ℕ) (x : HeldLob) → IsLike j x → IsLike j (raised s x)
    like_raised j s x g = record {
      stands = ap is_some (nth_at j 1 s (λ vs. (x.version + 1) ∷ vs) x.pieces) ∙ some_map (λ p. if is_in (1 + j) s then (x.version + 1) ∷ p else p) (nth j x.pieces) ∙ g.stands;
      last = λ q e. (let p = map_some (λ p. if is_in (1 + j) s then (x.version + 1) ∷ p else p) (nth j x.pieces) q (sym (nth_at j 1 s (λ vs. (x.version + 1) ∷ vs) x.pieces) ∙ e) in
          let r = g.last p.0 p.1 in
          subst (λ (q : List ℕ). IsSome1 q × (option_map last_of (nth j z.pieces) ≡ Some (last_of q))) p.2 (by_test (is_in (1 + j) s) p.0 r.0 r.1));
    }
      where
        by_test : (b : Bool) (p : List ℕ) → IsSome1 p → option_map last_of (nth j z.pieces) ≡ Some (last_of p) → IsSome1 (if b then (x.version + 1) ∷ p else p) × (option_map last_of (nth j z.pieces) ≡ Some (last_of (if b then (x.version + 1) ∷ p else p)))
        by_test true p some e = (tt, e ∙ ap (λ (n : ℕ). Some n) (sym (last_more (x.version + 1) p some)))
        by_test false p some e = (some, e)

    lob_like : (j : ℕ) → IsLike j (held_lob m)
    lob_like j =
        let r = below_all (λ x. x) (IsLike j) (λ s x g. like_raised j s x g) (λ s x g. refl) ks z (z_like j) in
        let s = same_ends r.0 (held_lobs store.lobs (its.ends a u store l ls all first oldest pieces touched body_is m there).0) r.1 (held_lob m) (sym r.2 ∙ sym h.list ∙ its.old_list a u store l ls all first oldest pieces touched body_is m there) in
        subst (IsLike j) s.1 r.4

    -- what stands below is one old version, and the oldest of the piece is that or the new one
    last_there : (j : ℕ) (p : Piece) → piece_of j m.pieces ≡ Some p → (w : ℕ) × (nth j h.base.pieces ≡ Some (w ∷ [])) × (last_of (at j (w ∷ [])) ≡ last_of (numbers_of p)) × (w ≤ u.before.lob.version)
    last_there j p e =
        let like = (lob_like j).last (numbers_of p) (nth_numbers j m.pieces p e) in
        let some : is_some (nth j z.pieces) ≡ true = sym (lob_like j).stands ∙ ap is_some (nth_numbers j m.pieces p e) in
        let q = some_of (nth j z.pieces) some in
        let o = map_some (at j) (nth j h.base.pieces) q.0 (sym (nth_thin h.base h.its.0 h.its.1 t gone j) ∙ q.1) in
        let w = single_at j h.base.pieces o.0 h.its.0 o.1 in
        let last : last_of q.0 ≡ last_of (numbers_of p) = cc (sym (ap (option_map last_of) q.1) ∙ like.1) in
        let up : AllUpTo h.base.version (w.0 ∷ []) = subst (AllUpTo h.base.version) w.1 (nth_below j h.base.version h.base.pieces o.0 h.its.1 o.1) in
        (w.0, o.1 ∙ ap (λ (x : List ℕ). Some x) w.1, ap last_of (ap (at j) (sym w.1) ∙ o.2) ∙ last, subst (λ (n : ℕ). w.0 ≤ n) h.version up.0)

    -- ---- it is passed

    pub behind_is : ((j : ℕ) (p : Piece) → is_in j touched ≡ true → piece_of j m.pieces ≡ Some p → u.before.lob.version < last_of (numbers_of p)) → half_drop gone k (add k (option_to_list b)) ≡ option_to_list (lob_behind k b)
    behind_is thinned_all =
        ap₂ (λ (q : Kind) (o : Option HeldLob). half_drop gone q (add q (option_to_list o))) h.kind h.is
        ∙ ap (λ (ps : List (List ℕ)). lob_as (h.base.version + 1) ps ∷ []) (all_thin t gone (h.base.version + 1) 1 h.base.pieces h.its.0 same)
        ∙ sym (ap₂ (λ (q : Kind) (o : Option HeldLob). option_to_list (lob_behind q o)) h.kind h.is)
      where
        same : (j : ℕ) (q : List ℕ) → nth j h.base.pieces ≡ Some q → is_in (1 + j) gone ≡ is_in (1 + j) t
        same j q e = by_tests (is_in (1 + j) gone) refl (is_in (1 + j) t) refl
          where
            stands : is_some (nth j (map numbers_of m.pieces)) ≡ true
            stands = (lob_like j).stands ∙ ap is_some (nth_thin h.base h.its.0 h.its.1 t gone j) ∙ some_map (at j) (nth j h.base.pieces) ∙ ap is_some e

            kept_old : is_in (1 + j) gone ≡ false → is_in (1 + j) t ≡ true → ⊥
            kept_old off into =
                let s = some_of (nth j (map numbers_of m.pieces)) stands in
                let p = nth_piece j m.pieces s.0 s.1 in
                let w = last_there j p.0 p.1 in
                let over : u.before.lob.version < last_of (numbers_of p.0) = thinned_all j p.0 (its.out_suc j touched into) p.1 in
                let last : w.0 ≡ last_of (numbers_of p.0) = sym (kept_last h.base h.its.0 h.its.1 t gone j w.0 off) ∙ w.2 in
                let low : w.0 ≤ u.before.lob.version = w.3 in
                absurd (omega (arith, over, last, low))

            by_tests : (x : Bool) → is_in (1 + j) gone ≡ x → (y : Bool) → is_in (1 + j) t ≡ y → is_in (1 + j) gone ≡ is_in (1 + j) t
            by_tests true ex true ey = ex ∙ sym ey
            by_tests true ex false ey = absurd (true≢false (sym (h.sub (1 + j) ex) ∙ ey))
            by_tests false ex true ey = absurd (kept_old ex ey)
            by_tests false ex false ey = ex ∙ sym ey

    -- ---- an oldest version is dropped

    module _ (j : ℕ) (free : List Address) (p : Piece) (kth : piece_of j m.pieces ≡ Some p) (into : is_in j touched ≡ true) (old_one : last_of (numbers_of p) ≤ u.before.lob.version) where
      abbrev lost : HeldLob → HeldLob
      lost x = record { version = x.version; pieces = on_nth j without_oldest x.pieces }

      off : is_in (1 + j) gone ≡ false
      off = by_test (is_in (1 + j) gone) refl
        where
          by_test : (x : Bool) → is_in (1 + j) gone ≡ x → is_in (1 + j) gone ≡ false
          by_test false e = e
          by_test true e =
              let w = last_there j p kth in
              let last : h.base.version + 1 ≡ last_of (numbers_of p) = sym (gone_last h.base h.its.0 h.its.1 t gone j w.0 e (its.in_suc j touched into)) ∙ w.2 in
              let v : h.base.version ≡ u.before.lob.version = h.version in absurd (omega (arith, last, v, old_one))

      IsThick : HeldLob → Type 0
      IsThick x = (q : List ℕ) → nth j x.pieces ≡ Some q → IsTwo q

      thick_z : IsThick z
      unfolding IsThick
      thick_z q e =
          let o = map_some (at j) (nth j h.base.pieces) q (sym (nth_thin h.base h.its.0 h.its.1 t gone j) ∙ e) in
          let w = single_at j h.base.pieces o.0 h.its.0 o.1 in
          subst IsTwo (sym (two_thin h.base h.its.0 h.its.1 t gone j w.0 off (its.in_suc j touched into)) ∙ ap (at j) (sym w.1) ∙ o.2) tt

      thick_raised : (s : List ℕ) (x : HeldLob) → IsThick x → IsThick (raised s x)
      unfolding IsThick
      thick_raised s x g q e =
          let o = map_some (λ p. if is_in (1 + j) s then (x.version + 1) ∷ p else p) (nth j x.pieces) q (sym (nth_at j 1 s (λ vs. (x.version + 1) ∷ vs) x.pieces) ∙ e) in
          subst IsTwo o.2 (by_test (is_in (1 + j) s) o.0 (g o.0 o.1))
        where
          by_test : (b : Bool) (p : List ℕ) → IsTwo p → IsTwo (if b then (x.version + 1) ∷ p else p)
          by_test true p two = two_more (x.version + 1) p two
          by_test false p two = two

      lost_raised : (s : List ℕ) (x : HeldLob) → IsThick x → raised s (lost x) ≡ lost (raised s x)
      unfolding IsThick
      lost_raised s x g = ap (lob_as (x.version + 1)) (comm_at j 1 (x.version + 1) s x.pieces g)

      lost_z : lost z ≡ thin h.base h.its.0 h.its.1 t (gone ++ (1 + j) ∷ [])
      lost_z = ap (lob_as (h.base.version + 1)) (more_at j 1 but_last without_oldest gone (at_pieces t (λ vs. (h.base.version + 1) ∷ vs) 1 h.base.pieces) off two)
        where
          two : (q : List ℕ) → nth j (at_pieces t (λ vs. (h.base.version + 1) ∷ vs) 1 h.base.pieces) ≡ Some q → without_oldest q ≡ but_last q
          two q e =
              let o = map_some (λ p. if is_in (1 + j) t then (h.base.version + 1) ∷ p else p) (nth j h.base.pieces) q (sym (nth_at j 1 t (λ vs. (h.base.version + 1) ∷ vs) h.base.pieces) ∙ e) in
              let w = single_at j h.base.pieces o.0 h.its.0 o.1 in
              let q_is : (h.base.version + 1) ∷ w.0 ∷ [] ≡ q = ap₂ (λ (b : Bool) (p : List ℕ). if b then (h.base.version + 1) ∷ p else p) (sym (its.in_suc j touched into)) (sym w.1) ∙ o.2 in
              subst (λ (q : List ℕ). without_oldest q ≡ but_last q) q_is refl

      abbrev f : Lob → Lob
      f x = record (at_piece j dropped x) { free = free }

      new_list : lob_list (on_lobs (on_lob u.before.lob.page f) store) u.doc ≡ add_all ks (thin h.base h.its.0 h.its.1 t (gone ++ (1 + j) ∷ []) ∷ [])
      new_list =
          let e = its.ends a u store l ls all first oldest pieces touched body_is m there in
          let r = below_all lost IsThick thick_raised lost_raised ks z thick_z in
          let s = same_ends r.0 (held_lobs store.lobs e.0) r.1 (held_lob m) (sym r.2 ∙ sym h.list ∙ its.old_list a u store l ls all first oldest pieces touched body_is m there) in
          its.list_with a u store l ls all first oldest pieces touched body_is m there (on_lob u.before.lob.page f store.lobs)
          ∙ ap₂ (λ (xs : List HeldLob) (o : Option Lob). xs ++ (map held_lob (option_to_list o) ++ []))
          (held_same u.before.lob.page store.lobs (on_lob u.before.lob.page f store.lobs) e.0 (λ q other. lob-on_other q u.before.lob.page f store.lobs (λ x. refl) other) e.2)
          (lob-on_this u.before.lob.page f store.lobs (λ x. refl) ∙ ap (option_map f) there)
          ∙ ap (λ (ps : List (List ℕ)). held_lobs store.lobs e.0 ++ lob_as m.version ps ∷ []) (numbers_on j dropped without_oldest m.pieces numbers_dropped)
          ∙ ap₂ (λ (xs : List HeldLob) (x : HeldLob). xs ++ lost x ∷ []) (sym s.0) (sym s.1)
          ∙ sym r.3 ∙ ap (λ (x : HeldLob). add_all ks (x ∷ [])) lost_z

      more_sub : (n : ℕ) → is_in n (gone ++ (1 + j) ∷ []) ≡ true → is_in n t ≡ true
      more_sub n g = elim (in_either n (1 + j) gone g) [
        | inl before ↦ h.sub n before
        | inr here ↦ (let same : 1 + j ≡ n = grind (arith, here) in subst (λ (x : ℕ). is_in x t ≡ true) same (its.in_suc j touched into))
      ]

  pub version_drops : (j : ℕ) (free : List Address) (p : Piece) → piece_of j m.pieces ≡ Some p → is_in j touched ≡ true → last_of (numbers_of p) ≤ u.before.lob.version
      → DropsLobs l u.doc store (on_lobs (on_lob u.before.lob.page (λ x. record (at_piece j dropped x) { free = free })) store)
  version_drops j free p kth into old_one = record {
    newer = its.newer a u store l ls all first oldest pieces touched body_is m there;
    oldest = its.c a u store l ls all first oldest pieces touched body_is m there;
    was = its.split a u store l ls all first oldest pieces touched body_is m there;
    mine = refl;
    changes = refl;
    step = λ ks k gone b g. (let h = its.thin_of a u store l ls all first oldest pieces touched body_is m there ks k gone b g in (
      gone ++ (1 + j) ∷ [],
      record {
        sorts = g.sorts;
        kind = g.kind;
        fits = g.fits;
        base = g.base;
        gone_of = subst (IsDropped (gone ++ (1 + j) ∷ [])) (sym h.kind) (more_sub ks k gone b h j free p kth into old_one);
        are = new_list ks k gone b h j free p kth into old_one
            ∙ sym (ap₂ (λ (q : Kind) (o : Option HeldLob). add_all ks (half_drop (gone ++ (1 + j) ∷ []) q (add q (option_to_list o)))) h.kind h.is);
      },
    ));
    others = λ q other. record {
      changes = refl;
      lobs = held_same u.before.lob.page store.lobs (on_lob u.before.lob.page (λ x. record (at_piece j dropped x) { free = free }) store.lobs) (lob_pages store q)
          (λ r apart. lob-on_other r u.before.lob.page (λ x. record (at_piece j dropped x) { free = free }) store.lobs (λ x. refl) apart)
          (doc_not u.before.lob.page store q all.well (before_elsewhere a u store l ls all.well first oldest q (λ g. other (sym g)) (its.is_live a u store l ls all first oldest pieces touched body_is m there)));
    };
  }

  pub version_passes : ((j : ℕ) (p : Piece) → is_in j touched ≡ true → piece_of j m.pieces ≡ Some p → u.before.lob.version < last_of (numbers_of p)) → PassesLobs l u.doc store (record_passed a l.trx u store)
  version_passes thinned_all = kept_passes a u store l ls all first oldest (ap (λ (b : Body). owned_by b u.before) body_is) (ap (λ (b : Body). cleared b u.before store.lobs) body_is)
      (λ ks k gone b g. behind_is ks k gone b (its.thin_of a u store l ls all first oldest pieces touched body_is m there ks k gone b g) thinned_all)
