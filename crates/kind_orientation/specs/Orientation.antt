-- Kind 47: H.274 8.25.1, display_orientation( payloadSize ).
use Rattle.std.specs.Prelude.{eqb}
use Rattle.format.specs.Format.{Format, done, ◌>>=◌}
use Rattle.format.specs.Syntax.{u, ◌at◌, ignored, when}
use Rattle.kind_orientation.specs.declared.Orientation.{Orientation}

abbrev pub table : Format Orientation Orientation
table = do
  display_orientation_cancel_flag ← u 1 at (λ r. r.display_orientation_cancel_flag)
  when (eqb display_orientation_cancel_flag 0) (do
    display_orientation_persistence_flag ← u 1 at (λ r. r.display_orientation_persistence_flag)
    display_orientation_transform_type ← u 3 at (λ r. r.display_orientation_transform_type)
    display_orientation_reserved_zero_3bits ← ignored 3
    done
        (record {
          display_orientation_cancel_flag = display_orientation_cancel_flag;
          display_orientation_persistence_flag = display_orientation_persistence_flag;
          display_orientation_transform_type = display_orientation_transform_type;
        }))

-- the table under a name that stays shut: callers go by laws
unfoldable pub orientation : Format Orientation Orientation
orientation = table
