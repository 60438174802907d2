-- Kind 150: H.274 8.15.2.1, equirectangular_projection( payloadSize ).
use Rattle.std.specs.Prelude.{eqb}
use Rattle.format.specs.Format.{Format, done, ◌>>=◌}
use Rattle.format.specs.Syntax.{u, guard_type, ◌at◌, ignored, when}
use Rattle.kind_equirectangular.specs.declared.Equirectangular.{Equirectangular}

abbrev pub table : Format Equirectangular Equirectangular
table = do
  erp_cancel_flag ← u 1 at (λ r. r.erp_cancel_flag)
  when (eqb erp_cancel_flag 0) (do
    erp_persistence_flag ← u 1 at (λ r. r.erp_persistence_flag)
    erp_guard_band_flag ← u 1 at (λ r. r.erp_guard_band_flag)
    erp_reserved_zero_2bits ← ignored 2
    when (eqb erp_guard_band_flag 1) (do
      erp_guard_band_type ← guard_type at (λ r. r.erp_guard_band_type)
      erp_left_guard_band_width ← u 8 at (λ r. r.erp_left_guard_band_width)
      erp_right_guard_band_width ← u 8 at (λ r. r.erp_right_guard_band_width)
      done
          (record {
            erp_cancel_flag = erp_cancel_flag;
            erp_persistence_flag = erp_persistence_flag;
            erp_guard_band_flag = erp_guard_band_flag;
            erp_guard_band_type = erp_guard_band_type;
            erp_left_guard_band_width = erp_left_guard_band_width;
            erp_right_guard_band_width = erp_right_guard_band_width;
          })))

-- the table under a name that stays shut: callers go by laws
unfoldable pub equirectangular : Format Equirectangular Equirectangular
equirectangular = table
