-- Parts taken out of a store, and put in.
use Rattle.std.proofs.Common.{◌≡◌, ◌≢◌, ◌⊎◌, inl, inr, ℕ, ◌+◌, List, [], ◌∷◌, ◌++◌, refl, sym, ap, subst, arith}
use Rattle.page_model.specs.Pages.{Pages, Address}
use Rattle.page_model.specs.Lists.{IsList}
use Rattle.page_model.specs.Counts.{times}
use Rattle.store_data.specs.Store.{Lob}
use Rattle.lob_model.specs.Lobs.{IsLob, lob_pages}
use Rattle.undo_model.specs.Data.{Log}
use Rattle.undo_model.specs.Logs.{IsLog}
use Rattle.undo_model.specs.LogLists.{pages_in, all_pages, log_nodes, active_base, committed_base}
use Rattle.page_model.proofs.CountLemmas.{times-append}
use Rattle.store_parts.specs.Stored.{Stored, pages_of, with_lobs, with_active, with_committed, out}
use Rattle.store_parts.specs.Standing.{IsOut, AreThere, AreLobs, IsStoreBut}
use Rattle.store_parts.proofs.FrameLemmas.{times-parts}

-- ---- LOBs

pub times-lobs : (n : ℕ) (bs : List Lob) (l : Lob) (cs : List Lob) → times n (pages_of (bs ++ l ∷ cs)) ≡ times n (lob_pages l) + times n (pages_of (bs ++ cs))
times-lobs n [] l cs = times-append n (lob_pages l) (pages_of cs)
times-lobs n (b ∷ bs) l cs =
    let a = times-append n (lob_pages b) (pages_of (bs ++ l ∷ cs)) in
    let c = times-append n (lob_pages b) (pages_of (bs ++ cs)) in
    let r = times-lobs n bs l cs in
    omega (arith, a, c, r)

lobs_split : (pages : Pages) (bs : List Lob) (l : Lob) (cs : List Lob) → AreLobs pages (bs ++ l ∷ cs) → IsLob pages l × AreLobs pages (bs ++ cs)
lobs_split pages [] l cs are = are
lobs_split pages (b ∷ bs) l cs are = let r = lobs_split pages bs l cs are.1 in (r.0, (are.0, r.1))

lobs_join : (pages : Pages) (bs : List Lob) (l : Lob) (cs : List Lob) → IsLob pages l → AreLobs pages (bs ++ cs) → AreLobs pages (bs ++ l ∷ cs)
lobs_join pages [] l cs is are = (is, are)
lobs_join pages (b ∷ bs) l cs is are = (are.0, lobs_join pages bs l cs is are.1)

module _ (own : List ℕ) (pages : Pages) (s : Stored) (bs : List Lob) (l : Lob) (cs : List Lob) where
  pub lob_out : IsStoreBut own pages (with_lobs (bs ++ l ∷ cs) s) → IsLob pages l × IsStoreBut (lob_pages l ++ own) pages (with_lobs (bs ++ cs) s)
  lob_out st = let parts = lobs_split pages bs l cs st.lobs in (
    parts.0,
    record {
      system = record { type = st.system.type; next_trx = st.system.next_trx; commits = st.system.commits; purged = st.system.purged };
      map = st.map;
      rows = st.rows;
      active_list = st.active_list;
      committed_list = st.committed_list;
      active = st.active;
      committed = st.committed;
      lobs = parts.1;
      marks = λ n. let m = st.marks n in let a = times-lobs n bs l cs in let b = times-append n (lob_pages l) own in
          let p = times-parts n (with_lobs (bs ++ l ∷ cs) s) in let q = times-parts n (with_lobs (bs ++ cs) s) in omega (arith, m, a, b, p, q);
    },
  )

  pub lob_in : (own' : List ℕ) → IsStoreBut own pages (with_lobs (bs ++ cs) s) → IsLob pages l → ((n : ℕ) → times n own ≡ times n (lob_pages l) + times n own')
      → IsStoreBut own' pages (with_lobs (bs ++ l ∷ cs) s)
  lob_in own' st is same = record {
    system = record { type = st.system.type; next_trx = st.system.next_trx; commits = st.system.commits; purged = st.system.purged };
    map = st.map;
    rows = st.rows;
    active_list = st.active_list;
    committed_list = st.committed_list;
    active = st.active;
    committed = st.committed;
    lobs = lobs_join pages bs l cs is st.lobs;
    marks = λ n. let m = st.marks n in let a = times-lobs n bs l cs in let b = same n in
        let p = times-parts n (with_lobs (bs ++ l ∷ cs) s) in let q = times-parts n (with_lobs (bs ++ cs) s) in omega (arith, m, a, b, p, q);
  }

-- ---- logs

-- the pages of logs count as those of one of them and of the others, added up
pub times-logs : (n : ℕ) (vs : List Log) (l : Log) (bs : List Log) → times n (all_pages (vs ++ l ∷ bs)) ≡ times n (pages_in l.parts) + times n (all_pages (vs ++ bs))
times-logs n [] l bs = times-append n (pages_in l.parts) (all_pages bs)
times-logs n (a ∷ vs) l bs =
    let x = times-append n (pages_in a.parts) (all_pages (vs ++ l ∷ bs)) in
    let y = times-append n (pages_in a.parts) (all_pages (vs ++ bs)) in
    let r = times-logs n vs l bs in
    omega (arith, x, y, r)

-- a log with the same first page, in the place of another, leaves the nodes of the list
pub nodes_same : (vs : List Log) (l m : Log) (bs : List Log) → l.page ≡ m.page → log_nodes (vs ++ l ∷ bs) ≡ log_nodes (vs ++ m ∷ bs)
nodes_same [] l m bs same = ap (λ p. (let a : Address = record { page = p; at = 67 } in a) ∷ log_nodes bs) same
nodes_same (a ∷ vs) l m bs same = ap (λ ns. (let b : Address = record { page = a.page; at = 67 } in b) ∷ ns) (nodes_same vs l m bs same)

there_at : (pages : Pages) (vs : List Log) (l : Log) (bs : List Log) → AreThere pages (vs ++ l ∷ bs) → IsOut l ⊎ IsLog pages l
there_at pages [] l bs are = are.0
there_at pages (a ∷ vs) l bs are = there_at pages vs l bs are.1

there_set : (pages : Pages) (vs : List Log) (l m : Log) (bs : List Log) → IsOut m ⊎ IsLog pages m → AreThere pages (vs ++ l ∷ bs) → AreThere pages (vs ++ m ∷ bs)
there_set pages [] l m bs is are = (is, are.1)
there_set pages (a ∷ vs) l m bs is are = (are.0, there_set pages vs l m bs is are.1)

log_there : (pages : Pages) (l : Log) → l.parts ≢ [] → IsOut l ⊎ IsLog pages l → IsLog pages l
log_there pages l some (inl none) = absurd (some none)
log_there pages l some (inr is) = is

module _ (own : List ℕ) (pages : Pages) (s : Stored) (vs : List Log) (l : Log) (bs : List Log) where
  pub log_out : l.parts ≢ [] → IsStoreBut own pages (with_active (vs ++ l ∷ bs) s)
      → IsLog pages l × IsStoreBut (pages_in l.parts ++ own) pages (with_active (vs ++ out l ∷ bs) s)
  log_out some st = (
    log_there pages l some (there_at pages vs l bs st.active),
    record {
      system = record { type = st.system.type; next_trx = st.system.next_trx; commits = st.system.commits; purged = st.system.purged };
      map = st.map;
      rows = st.rows;
      active_list = subst (IsList pages active_base) (nodes_same vs l (out l) bs refl) st.active_list;
      committed_list = st.committed_list;
      active = there_set pages vs l (out l) bs (inl refl) st.active;
      committed = st.committed;
      lobs = st.lobs;
      marks = λ n. let m = st.marks n in let a = times-logs n vs l bs in let o = times-logs n vs (out l) bs in let b = times-append n (pages_in l.parts) own in
          let p = times-parts n (with_active (vs ++ l ∷ bs) s) in let q = times-parts n (with_active (vs ++ out l ∷ bs) s) in omega (arith, m, a, o, b, p, q);
    },
  )

  -- in the place of one that was taken out
  pub log_in : (own' : List ℕ) (m : Log) → IsOut l → m.page ≡ l.page → IsStoreBut own pages (with_active (vs ++ l ∷ bs) s) → IsLog pages m
      → ((n : ℕ) → times n own ≡ times n (pages_in m.parts) + times n own') → IsStoreBut own' pages (with_active (vs ++ m ∷ bs) s)
  log_in own' m none same st is moved = record {
    system = record { type = st.system.type; next_trx = st.system.next_trx; commits = st.system.commits; purged = st.system.purged };
    map = st.map;
    rows = st.rows;
    active_list = subst (IsList pages active_base) (nodes_same vs l m bs (sym same)) st.active_list;
    committed_list = st.committed_list;
    active = there_set pages vs l m bs (inr is) st.active;
    committed = st.committed;
    lobs = st.lobs;
    marks = λ n. let k = st.marks n in let a = times-logs n vs l bs in let o = times-logs n vs m bs in let b = moved n in
        let e : times n (pages_in l.parts) ≡ 0 = ap (λ ps. times n (pages_in ps)) none in
        let p = times-parts n (with_active (vs ++ l ∷ bs) s) in let q = times-parts n (with_active (vs ++ m ∷ bs) s) in omega (arith, k, a, o, e, b, p, q);
  }

  pub committed_out : l.parts ≢ [] → IsStoreBut own pages (with_committed (vs ++ l ∷ bs) s)
      → IsLog pages l × IsStoreBut (pages_in l.parts ++ own) pages (with_committed (vs ++ out l ∷ bs) s)
  committed_out some st = (
    log_there pages l some (there_at pages vs l bs st.committed),
    record {
      system = record { type = st.system.type; next_trx = st.system.next_trx; commits = st.system.commits; purged = st.system.purged };
      map = st.map;
      rows = st.rows;
      active_list = st.active_list;
      committed_list = subst (IsList pages committed_base) (nodes_same vs l (out l) bs refl) st.committed_list;
      active = st.active;
      committed = there_set pages vs l (out l) bs (inl refl) st.committed;
      lobs = st.lobs;
      marks = λ n. let m = st.marks n in let a = times-logs n vs l bs in let o = times-logs n vs (out l) bs in let b = times-append n (pages_in l.parts) own in
          let p = times-parts n (with_committed (vs ++ l ∷ bs) s) in let q = times-parts n (with_committed (vs ++ out l ∷ bs) s) in omega (arith, m, a, o, b, p, q);
    },
  )

  pub committed_in : (own' : List ℕ) (m : Log) → IsOut l → m.page ≡ l.page → IsStoreBut own pages (with_committed (vs ++ l ∷ bs) s) → IsLog pages m
      → ((n : ℕ) → times n own ≡ times n (pages_in m.parts) + times n own') → IsStoreBut own' pages (with_committed (vs ++ m ∷ bs) s)
  committed_in own' m none same st is moved = record {
    system = record { type = st.system.type; next_trx = st.system.next_trx; commits = st.system.commits; purged = st.system.purged };
    map = st.map;
    rows = st.rows;
    active_list = st.active_list;
    committed_list = subst (IsList pages committed_base) (nodes_same vs l m bs (sym same)) st.committed_list;
    active = st.active;
    committed = there_set pages vs l m bs (inr is) st.committed;
    lobs = st.lobs;
    marks = λ n. let k = st.marks n in let a = times-logs n vs l bs in let o = times-logs n vs m bs in let b = moved n in
        let e : times n (pages_in l.parts) ≡ 0 = ap (λ ps. times n (pages_in ps)) none in
        let p = times-parts n (with_committed (vs ++ l ∷ bs) s) in let q = times-parts n (with_committed (vs ++ m ∷ bs) s) in omega (arith, k, a, o, e, b, p, q);
  }
