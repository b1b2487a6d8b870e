-- What reading gives, as the definitions over pages have it.
use Rattle.std.specs.Prelude.{ℕ, List, length, take, Option, None, cond, ◌&&◌, nat_le}
use Rattle.byteorder.specs.Endian.{big_number}
use Rattle.undo_model.specs.Bytes.{head_size}
use Rattle.store_data.specs.Store.{RowState}
use Rattle.undo_model.specs.Reading.{Standing as ModelStanding, state_of, record_in}
use Rattle.engine_base.specs.Addresses.{address_of}
use Rattle.undo_records.specs.Records.{record_of}
use Rattle.undo_records.specs.declared.decode.Standing.{Standing}

-- the state that a byte says
abbrev pub some_state : ℕ → Option RowState
some_state = state_of

abbrev pub standing_of : Standing → ModelStanding
standing_of s = record { undo = record_of s.rec; previous = address_of s.previous }

-- the record that bytes begin with
abbrev pub record_front : ℕ → List ℕ → Option ModelStanding
record_front count bytes =
    let size = big_number 2 bytes in
    cond (nat_le head_size size && nat_le size (length bytes))
    (record_in count (take size bytes)) None
