-- A LOB of a store in pages: what its calls ask for, and the store as it changes.
use Rattle.std.proofs.Common.{◌≡◌, inl, inr, ℕ, ◌+◌, ◌<◌, ◌≤◌, Bool, if◌then◌else◌, List, [], ◌∷◌, ◌++◌, length, map, Some, refl, sym, ap, subst, ◌∙◌, arith}
use Rattle.std.proofs.lemmas.Bool.Decides.{eqb_tells}
use Rattle.page_model.specs.Pages.{Pages, AreWhole, field}
use Rattle.page_model.specs.Lists.{IsList}
use Rattle.page_model.specs.Counts.{times}
use Rattle.page_model.proofs.CountLemmas.{times_here}
use Rattle.page_space.specs.Map.{IsMap, IsUsed}
use Rattle.store_data.specs.Store.{Piece, Lob, Store}
use Rattle.lob_model.specs.Pieces.{head_place}
use Rattle.lob_model.specs.Places.{heads_base}
use Rattle.lob_model.specs.Lobs.{IsChain, IsLob, lob_pages}
use Rattle.lob_index.specs.Use.{AreUsed}
use Rattle.undo_model.proofs.OptionLemmas.{some_some, not_some}
use Rattle.undo_model.specs.Rows.{RowPage}
use Rattle.store_model.specs.Lobs.{lob_of}
use Rattle.store_model.specs.Steps.{on_lob, on_lobs, without_lob}
use Rattle.store_parts.specs.Stored.{Stored, with_lobs, pages_of}
use Rattle.store_parts.specs.Standing.{mark}
use Rattle.store_parts.specs.Shows.{IsWhole}
use Rattle.store_parts.specs.Keeps.{Keeps}
use Rattle.store_parts.proofs.CountLemmas.{mark_small}
use Rattle.store_parts.proofs.FrameLemmas.{times-parts}
use Rattle.store_parts.proofs.MoveLemmas.{marked}
use Rattle.store_pages.proofs.PartLemmas.{lob_in, times-lobs}
use Rattle.store_pages.proofs.LobStoreLemmas.{Found, taken, none_out, shows_lobs}
use Rattle.store_steps.specs.Standing.{StandsOn}
use Rattle.store_steps.specs.declared.lob.Left.TheVariants.{Index, Nothing}
use Rattle.store_steps.specs.Lobs.{left_in}

-- a LOB that is found by its first page is one in the list, where it alone is changed or taken out
find_lob : (lobs : List Lob) (page : ℕ) (l : Lob) → lob_of lobs page ≡ Some l → Found lobs page l
find_lob [] page l is = absurd (not_some l is)
find_lob (m ∷ ms) page l is = elim (eqb_tells m.page page) [
  | inl same ↦ (
      let e : m ≡ l = some_some m l (ap (λ (b : Bool). if b then Some m else lob_of ms page)
      (sym same.0) ∙ is) in
      subst (λ x. Found (m ∷ ms) page x) e (record {
        before = [];
        after = ms;
        cut = refl;
        here = same.1;
        changed = λ f. ap (λ (b : Bool). if b then f m ∷ ms else m ∷ on_lob page f ms) same.0;
        gone = ap (λ (b : Bool). if b then ms else m ∷ without_lob page ms) same.0;
      })
      )
  | inr other ↦ (
      let rest = find_lob ms page l (ap (λ (b : Bool). if b then Some m else lob_of ms page)
      (sym other.0) ∙ is) in
      record {
        before = m ∷ rest.before;
        after = rest.after;
        cut = ap (λ ls. m ∷ ls) rest.cut;
        here = rest.here;
        changed = λ f. ap (λ (b : Bool). if b then f m ∷ ms else m ∷ on_lob page f ms) other.0
            ∙ ap (λ ls. m ∷ ls) (rest.changed f);
        gone = ap (λ (b : Bool). if b then ms else m ∷ without_lob page ms) other.0
            ∙ ap (λ ls. m ∷ ls) rest.gone;
      }
      )
]

whole_lobs : (s : Stored) (ls : List Lob) → IsWhole s → IsWhole (with_lobs ls s)
whole_lobs s ls is = record {
  active = is.active;
  committed = is.committed;
  count = is.count;
  active_in = is.active_in;
  committed_in = is.committed_in;
}

pub record LobAt (there : List RowPage) (old : Pages) (store : Store) (page : ℕ) (l : Lob) : Type 0
  where
    pub stands : IsLob old l
    pub here : l.page ≡ page
    pub map : IsMap old
    pub used : AreUsed old (lob_pages l)
    pub changed : (new : Pages) (f : Lob → Lob) → IsLob new (f l)
        → Keeps [] (lob_pages l) (lob_pages (f l)) old new
        → StandsOn there new (on_lobs (on_lob page f) store)
    pub gone : (new : Pages) → Keeps [] (lob_pages l) [] old new
        → StandsOn there new (on_lobs (without_lob page) store)

-- a LOB of a store stands in its pages, and the store changes as it changes there, or goes; the rows
-- stay in their slots
pub lob_at : (there : List RowPage) (old : Pages) (store : Store) (page : ℕ) (l : Lob)
    → StandsOn there old store → lob_of store.lobs page ≡ Some l → LobAt there old store page l
lob_at there old store page l on found =
    let is = on.is in
    let s = is.stored in
    let at = find_lob store.lobs page l found in
    let out = taken old old store is page l at in
    let st = is.standing in
    let within : (n : ℕ) → times n (lob_pages l) + times n (0 ∷ []) ≤ mark old n =
    λ n. (let p = times-parts n s in
    let a : times n (pages_of s.lobs) ≡ times n (pages_of (at.before ++ l ∷ at.after)) =
    ap (λ ls. times n (pages_of ls)) (sym is.shows.lobs ∙ at.cut) in
    let b = times-lobs n at.before l at.after in
    let m = st.marks n in omega (arith, p, a, b, m)) in
    record {
      stands = out.0;
      here = at.here;
      map = st.map;
      used = record {
        system = (marked old 0 (let w = within 0 in let h = times_here 0 [] in omega (arith, w, h))).1;
        other = (let w = within 0 in let h = times_here 0 [] in let k = mark_small old 0 in
            omega (arith, w, h, k));
        each = λ n h. (marked old n (let w = within n in omega (arith, w, h))).1;
      };
      changed = λ new f lob keeps.
          let after = keeps (with_lobs (at.before ++ at.after) s) (none_out s.active is.whole.active_in)
          (none_out s.committed is.whole.committed_in) out.1 in
          record {
            is = record {
              stored = with_lobs (at.before ++ f l ∷ at.after) s;
              standing = lob_in (lob_pages (f l)) new s at.before (f l) at.after [] after lob
                  (λ n. omega arith);
              whole = whole_lobs s _ is.whole;
              shows = shows_lobs s store _ (on_lob page f) is.shows (at.changed f);
            };
            slots = on.slots;
          };
      gone = λ new keeps. record {
        is = record {
          stored = with_lobs (at.before ++ at.after) s;
          standing = keeps (with_lobs (at.before ++ at.after) s)
              (none_out s.active is.whole.active_in)
              (none_out s.committed is.whole.committed_in) out.1;
          whole = whole_lobs s _ is.whole;
          shows = shows_lobs s store _ (without_lob page) is.shows at.gone;
        };
        slots = on.slots;
      };
    }

-- ---- what is left of it

pub left_by : (pages : Pages) (count page next : ℕ) (ps : List Piece) (index : List ℕ)
    → AreWhole pages count → count < 4_294_967_296 → IsChain pages page index
    → next ≡ field pages page 12 4 → length (map head_place ps) ≡ 0
    → (next ≡ 4_294_967_295 → Nothing ≡ left_in ps index)
    × ((next ≡ 4_294_967_295 → ⊥) → Index ≡ left_in ps index)
left_by pages count page next [] [] whole few chain is none =
    ((λ null. refl), (λ not. absurd (not (is ∙ chain))))
left_by pages count page next [] (i ∷ more) whole few chain is none = (
  (λ null. absurd (no (let there = chain.1.there in let m = whole.many in let c = chain.0 in
      omega (arith, there, m, c, is, null, few)))),
  (λ not. refl),
)
  where
    no : 1 ≤ 0 → ⊥
    no h = absurd (omega arith)
left_by pages count page next (p ∷ ps) index whole few chain is none =
    absurd (no (omega (arith, none)))
  where
    no : 1 ≤ 0 → ⊥
    no h = absurd (omega arith)

pub heads_at : (pages : Pages) (lob : Lob) (page : ℕ) → lob.page ≡ page → IsLob pages lob
    → IsList pages (heads_base page) (map head_place lob.pieces)
heads_at pages lob page same is =
    subst (λ (n : ℕ). IsList pages (heads_base n) (map head_place lob.pieces)) same is.heads

pub chain_at : (pages : Pages) (lob : Lob) (page : ℕ) → lob.page ≡ page → IsLob pages lob
    → IsChain pages page lob.index
chain_at pages lob page same is =
    subst (λ (n : ℕ). IsChain pages n lob.index) same is.chain

pub page_used : (there : List RowPage) (pages : Pages) (store : Store) (page : ℕ) (l : Lob)
    → LobAt there pages store page l → IsUsed pages page
page_used there pages store page l at =
    subst (IsUsed pages) at.here (let used = at.used in used.each l.page
    (times_here l.page _))
