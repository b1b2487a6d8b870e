-- The purge of a record that made versions, of a store.
use Rattle.std.proofs.Common.{◌≡◌, inl, inr, ◌⊎◌, ℕ, suc, ◌+◌, Bool, true, false, true≢false, nat_eq, List, [], ◌∷◌, ◌++◌, map, Option, Some, None, is_some, IfSome, option_to_list, refl, sym, ap, subst, ◌∙◌, arith, ◌||◌}
use Rattle.page_model.specs.Pages.{Address}
use Rattle.journal_model.specs.Held.{Kind, inserted, rebuilt, versioned, patched, removed, HeldLob, is_in, thinned, raised, add, add_all}
use Rattle.history_model.specs.Sound.{IsFitting}
use Rattle.store_data.specs.Store.{RowState, live, Reference, Row, Piece, Lob, Body, Record, Log, Store}
use Rattle.store_data.specs.Store as bodies
use Rattle.store_data.specs.Logs.{passed}
use Rattle.store_model.specs.Lobs.{lob_of}
use Rattle.store_model.specs.History.{Change, changes, row_before}
use Rattle.store_model.specs.Steps.{last_in}
use Rattle.store_model.specs.Undo.{on_oldest}
use Rattle.store_model.specs.Owned.{owned_if, owned_by, owned_lobs, IsNotAmong, IsAmong}
use Rattle.store_model.specs.Well.{IsKind, IsChain}
use Rattle.store_model.specs.Versions.{HoldBehind}
use Rattle.store_model.specs.Consistent.{IsConsistent}
use Rattle.store_model.proofs.LogLemmas.{change}
use Rattle.store_model.proofs.OwnedLemmas.{unowned_lob}
use Rattle.store_model.proofs.HeldLemmas.{owned_there}
use Rattle.store_model.proofs.TakesLemmas.{owned_unlive}
use Rattle.store_model.proofs.GivesLemmas.{pass_chain, last_step}
use Rattle.kept_model.specs.Held.{held_lob, held_lobs, change_lobs, lob_pages, lob_list, half_drop, IsDropped, IsOfKind}
use Rattle.kept_model.specs.Pages.{IsBase, AreLobs}
use Rattle.kept_model.proofs.LobLists.{live_list}
use Rattle.kept_model.proofs.PassLobs.{held_both, was}
use Rattle.kept_model.proofs.LastLob.{EndsAt, some_lob, lob_stands, ends_at, IsTop, version_is}
use Rattle.kept_model.proofs.VersionLobs.{thin}

-- a live row's LOB stands
among_or_not : (p : ℕ) (xs : List ℕ) → IsAmong p xs ⊎ IsNotAmong p xs
among_or_not p [] = inr tt
among_or_not p (x ∷ xs) = by_test (nat_eq x p) refl (among_or_not p xs)
  where
    by_test : (b : Bool) → nat_eq x p ≡ b → IsAmong p xs ⊎ IsNotAmong p xs → IsAmong p (x ∷ xs) ⊎ IsNotAmong p (x ∷ xs)
    by_test true e rest = inl (inl (let same : x ≡ p = grind (arith, e) in same))
    by_test false e (inl h) = inl (inr h)
    by_test false e (inr h) = inr ((λ same. (let here : nat_eq x p ≡ true = grind (arith, same) in true≢false (sym here ∙ e))), h)

pub live_stands : (store : Store) (d : ℕ) → IsConsistent store → (row_before store d).state ≡ live → is_some (lob_of store.lobs (row_before store d).lob.page) ≡ true
live_stands store d all is_live = elim (among_or_not (row_before store d).lob.page (owned_lobs store)) [
  | inl h ↦ owned_there (row_before store d).lob.page store all.lobs h
  | inr off ↦ absurd ((unowned_lob (row_before store d).lob.page store all.well off d).0 is_live refl)
]

pub in_suc : (j : ℕ) (touched : List ℕ) → is_in j touched ≡ true → is_in (1 + j) (map suc touched) ≡ true
in_suc j [] h = h
in_suc j (n ∷ ns) h = by_test (nat_eq n j) refl h (in_suc j ns)
  where
    by_test : (b : Bool) → nat_eq n j ≡ b → (b || is_in j ns) ≡ true → (is_in j ns ≡ true → is_in (1 + j) (map suc ns) ≡ true) → (nat_eq (suc n) (1 + j) || is_in (1 + j) (map suc ns)) ≡ true
    by_test true e g rest = ap (λ (b : Bool). b || is_in (1 + j) (map suc ns)) (let same : nat_eq (suc n) (1 + j) ≡ true = grind (arith, e) in same)
    by_test false e g rest = or_right (nat_eq (suc n) (1 + j)) (is_in (1 + j) (map suc ns)) (rest g)
      where
        or_right : (a b : Bool) → b ≡ true → (a || b) ≡ true
        or_right true b h = refl
        or_right false b h = h

pub out_suc : (j : ℕ) (touched : List ℕ) → is_in (1 + j) (map suc touched) ≡ true → is_in j touched ≡ true
out_suc j [] h = h
out_suc j (n ∷ ns) h = by_test (nat_eq n j) refl (nat_eq (suc n) (1 + j)) refl h (out_suc j ns)
  where
    by_test : (b : Bool) → nat_eq n j ≡ b → (c : Bool) → nat_eq (suc n) (1 + j) ≡ c → (c || is_in (1 + j) (map suc ns)) ≡ true → (is_in (1 + j) (map suc ns) ≡ true → is_in j ns ≡ true) → (b || is_in j ns) ≡ true
    by_test true e c f g rest = refl
    by_test false e true f g rest = (let same : nat_eq n j ≡ true = grind (arith, f) in absurd (true≢false (sym same ∙ e)))
    by_test false e false f g rest = rest g

module _ (a : Address) (u : Record) (store : Store) (l : Log) (ls : List Log) (all : IsConsistent store) (first : store.committed ≡ l ∷ ls) (oldest : last_in l.records ≡ (a, u) ∷ [])
    (pieces : ℕ) (touched : List ℕ) (body_is : u.body ≡ bodies.versioned pieces touched) (m : Lob) (there : lob_of store.lobs u.before.lob.page ≡ Some m) where
  abbrev pub newer : List Change
  newer = changes (on_oldest passed store) u.doc

  abbrev pub c : Change
  c = change l.trx a u

  abbrev row : Row
  row = row_before store u.doc

  abbrev page : ℕ
  page = u.before.lob.page

  chain : IsChain row (newer ++ c ∷ [])
  chain = pass_chain a u store l ls all.well first oldest

  its_kind : (r : Row) → IsKind u.body r u.before → (r.state ≡ live) × (r.lob ≡ Rattle.store_model.specs.Events.raised u.before.lob)
  its_kind r kind = let k : (r.state ≡ live) × (u.before.state ≡ live) × (r.lob ≡ Rattle.store_model.specs.Events.raised u.before.lob) = subst (λ (b : Body). IsKind b r u.before) body_is kind in (k.0, k.2)

  pub is_live : u.before.state ≡ live
  is_live = let s = last_step a u store l ls all.well first oldest newer row chain in
      let k : (s.0.state ≡ live) × (u.before.state ≡ live) × (s.0.lob ≡ Rattle.store_model.specs.Events.raised u.before.lob) = subst (λ (b : Body). IsKind b s.0 u.before) body_is s.1.kind in k.1

  owns_none : owned_by u.body u.before ≡ []
  owns_none = ap (λ (b : Body). owned_by b u.before) body_is

  pub split : changes store u.doc ≡ newer ++ c ∷ []
  split = was a u store l ls all first oldest

  pub ends : EndsAt page (lob_pages store u.doc)
  ends = subst (λ (cs : List Change). EndsAt page (owned_if row.state row.lob.page ++ change_lobs cs)) (sym split) (ends_at c is_live its_kind owns_none row newer chain)

  pub list_with : (lobs : List Lob) → held_lobs lobs (lob_pages store u.doc) ≡ held_lobs lobs ends.0 ++ (map held_lob (option_to_list (lob_of lobs page)) ++ [])
  list_with lobs = ap (held_lobs lobs) ends.1 ∙ held_both lobs ends.0 (page ∷ [])

  pub old_list : lob_list store u.doc ≡ held_lobs store.lobs ends.0 ++ held_lob m ∷ []
  old_list = list_with store.lobs ∙ ap (λ (o : Option Lob). held_lobs store.lobs ends.0 ++ (map held_lob (option_to_list o) ++ [])) there

  -- what its facts say: below the changes in front stands this LOB, with what is dropped of it
  pub record IsThin (ks : List Kind) (k : Kind) (gone : List ℕ) (b : Option HeldLob) : Type 0 where
    pub base : HeldLob
    pub is : b ≡ Some base
    pub its : IsBase base
    pub kind : k ≡ versioned (map suc touched)
    pub list : lob_list store u.doc ≡ add_all ks (thin base its.0 its.1 (map suc touched) gone ∷ [])
    pub sub : (n : ℕ) → is_in n gone ≡ true → is_in n (map suc touched) ≡ true
    pub version : base.version ≡ u.before.lob.version

  top : (ks : List Kind) (z : HeldLob) → lob_list store u.doc ≡ add_all ks (z ∷ []) → IsTop c is_live its_kind owns_none store.lobs z row newer (add_all ks (z ∷ []))
  top ks z is = record {
    up = λ live_row. (let m' = some_lob (lob_of store.lobs row.lob.page) (live_stands store u.doc all live_row) in
        (held_lob m'.0, sym is ∙ live_list store u.doc m'.0 live_row m'.1 ∙ ap (λ (cs : List Change). held_lob m'.0 ∷ held_lobs store.lobs (change_lobs cs)) split, ((all.versions u.doc).0 live_row m'.0 m'.1).0));
    down = λ other. sym is ∙ ap (λ (ps : List ℕ). held_lobs store.lobs (ps ++ change_lobs (changes store u.doc))) (owned_unlive row other)
        ∙ ap (λ (cs : List Change). held_lobs store.lobs (change_lobs cs)) split;
  }

  pub thin_of : (ks : List Kind) (k : Kind) (gone : List ℕ) (b : Option HeldLob) → AreLobs newer c ks k gone b (lob_list store u.doc) → IsThin ks k gone b
  thin_of ks k gone b g = by_kind k b (subst (IsOfKind k) body_is g.kind) g.fits g.base g.gone_of g.are
    where
      by_kind : (k : Kind) (b : Option HeldLob) → IsOfKind k (bodies.versioned pieces touched) → IsFitting k b → IfSome b IsBase → IsDropped gone k → lob_list store u.doc ≡ add_all ks (half_drop gone k (add k (option_to_list b))) → IsThin ks k gone b
      by_kind (versioned t) (Some x) of_kind fits base drops are = record {
        base = x;
        is = refl;
        its = base;
        kind = ap versioned of_kind;
        list = are ∙ ap (λ (q : List ℕ). add_all ks (thinned gone (raised q x) ∷ [])) of_kind;
        sub = subst (λ (q : List ℕ). (n : ℕ) → is_in n gone ≡ true → is_in n q ≡ true) of_kind drops;
        version =
            (let v : x.version + 1 ≡ suc u.before.lob.version = version_is c is_live its_kind owns_none store.lobs (thinned gone (raised t x)) row newer ks chain g.sorts (subst (HoldBehind store.lobs) split (all.versions u.doc).1)
            (λ p h. lob_stands store u.doc p all (subst (λ (cs : List Change). IsAmong p (change_lobs cs)) (sym split) h)) (subst (IsTop c is_live its_kind owns_none store.lobs (thinned gone (raised t x)) row newer) refl (top ks (thinned gone (raised t x)) are)) in omega (arith, v));
      }
      by_kind (versioned t) None of_kind fits base drops are = absurd (cc fits)
      by_kind (inserted n) b of_kind fits base drops are = absurd of_kind
      by_kind (rebuilt n) b of_kind fits base drops are = absurd of_kind
      by_kind patched b of_kind fits base drops are = absurd of_kind
      by_kind removed b of_kind fits base drops are = absurd of_kind
