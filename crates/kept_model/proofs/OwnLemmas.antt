-- The LOB of a live row of a consistent store.
use Rattle.std.proofs.Common.{◌≡◌, ℕ, Some}
use Rattle.store_data.specs.Store.{live, Lob, Store}
use Rattle.store_model.specs.Lobs.{lob_of}
use Rattle.store_model.specs.History.{row_before}
use Rattle.store_model.specs.Consistent.{IsConsistent}

-- the LOB of a live row has the row's version
pub version_there : (store : Store) (d : ℕ) (l : Lob) → IsConsistent store → (row_before store d).state ≡ live → lob_of store.lobs (row_before store d).lob.page ≡ Some l → l.version ≡ (row_before store d).lob.version
version_there store d l all is_live is = ((all.versions d).0 is_live l is).0
