-- A new store as an opening.
use Rattle.std.proofs.Common.{ℕ, [], refl, arith}
use Rattle.journal_model.specs.Journal.{Script, new_store}
use Rattle.history_model.specs.Laws.{IsNumbered, IsRun}
use Rattle.history_model.specs.Sound.{AreFitting, IsFirst, AreCut, IsPieced}
use Rattle.history_model.specs.Scripts.{MayStand}
use Rattle.journal_model.specs.Documents.{look}
use Rattle.journal_model.specs.History.{history}

-- a new store and a script of sessions 1 to 64 are a run
pub new_run : (pages : ℕ) (script : Script) → IsNumbered script → IsRun (new_store pages) script
new_run pages script numbered = record { numbered = numbered; falling = tt; made = omega arith }

-- its histories are sound
pub new_first : (pages : ℕ) → IsFirst (new_store pages)
unfolding AreFitting
new_first pages = record { sound = λ d. record { stands = refl; fitting = tt; single = tt }; lobs = λ d. refl }

-- and pieced
pub new_pieced : (pages : ℕ) (script : Script) (d : ℕ) → IsPieced (history (new_store pages) script [] d)
unfolding AreCut
new_pieced pages script d = record { below = tt; left = tt }

-- and its documents stand
pub new_stands : (pages d : ℕ) → MayStand (look (new_store pages).documents d)
new_stands pages d = tt
