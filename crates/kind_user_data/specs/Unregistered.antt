-- Kind 5: H.274 8.4.1, user_data_unregistered( payloadSize ), up to its payload bytes.
use Rattle.format.specs.Format.{Format, done, ◌>>=◌}
use Rattle.format.specs.Syntax.{bytes}
use Rattle.kind_user_data.specs.declared.unregistered.Unregistered.{Unregistered}

abbrev pub table : Format Unregistered Unregistered
table = do
  uuid_iso_iec_11578 ← bytes 16 (λ r. r.uuid_iso_iec_11578)
  done (record { uuid_iso_iec_11578 = uuid_iso_iec_11578 })

-- the table under a name that stays shut: callers go by laws
unfoldable pub unregistered : Format Unregistered Unregistered
unregistered = table
