-- A consistent store: all that its parts keep, in one.
use Rattle.store_data.specs.Store.{Store, AreRising}
use Rattle.store_model.specs.Owned.{AreSound}
use Rattle.store_model.specs.Held.{HasLobs}
use Rattle.store_model.specs.Versions.{HasVersions}
use Rattle.store_model.specs.Well.{IsWell}
use Rattle.store_model.specs.Ids.{HasIds}

pub record IsConsistent (store : Store) : Type 0 where
  pub well : IsWell store
  pub ids : HasIds store
  pub lobs : HasLobs store
  pub versions : HasVersions store
  pub sound : AreSound store
  pub rising : AreRising store.rows
