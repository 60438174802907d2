-- Kind 4: H.274 8.3.1, user_data_registered_itu_t_t35( payloadSize ), up to its payload bytes.
use Rattle.std.specs.Prelude.{ℕ, if◌then◌else◌, eqb}
use Rattle.format.specs.Format.{Format, done, ◌>>=◌}
use Rattle.format.specs.Syntax.{b, ◌at◌, when}
use Rattle.kind_user_data.specs.declared.registered.Registered.{Registered}

abbrev pub table : Format Registered Registered
table = do
  itu_t_t35_country_code ← b 8 at (λ r. r.itu_t_t35_country_code)
  when (eqb itu_t_t35_country_code 255) (do
    itu_t_t35_country_code_extension_byte ← b 8 at (λ r. r.itu_t_t35_country_code_extension_byte)
    done (record { itu_t_t35_country_code = itu_t_t35_country_code; itu_t_t35_country_code_extension_byte = itu_t_t35_country_code_extension_byte }))

-- the table under a name that stays shut: callers go by laws
unfoldable pub registered : Format Registered Registered
registered = table

-- how many bytes the head takes
abbrev pub head_bytes : Registered → ℕ
head_bytes a = if eqb a.itu_t_t35_country_code 255 then 2 else 1
