-- Kind 154: H.274 8.15.4.1, sphere_rotation( payloadSize ).
use Rattle.std.specs.Prelude.{eqb, ℤ, pos, negsuc}
use Rattle.bits.specs.Refusals.{Verdict}
use Rattle.format.specs.Format.{Format, done, ◌>>=◌, ◌of◌}
use Rattle.format.specs.Syntax.{u, ◌at◌, i32, ignored, between, when}
use Rattle.numbers.specs.Degrees.{degrees_of}
use Rattle.kind_rotation.specs.declared.Rotation.{Rotation}

-- RULES 8: yaw and roll from -11,796,480 to 11,796,479, pitch from -5,898,240 to 5,898,240. `negsuc n` is -(n + 1)
abbrev pub turn : ℤ → Verdict
turn = between (negsuc 11_796_479) (pos 11_796_479)

abbrev pub tilt : ℤ → Verdict
tilt = between (negsuc 5_898_239) (pos 5_898_240)

abbrev pub table : Format Rotation Rotation
table = do
  sphere_rotation_cancel_flag ← u 1 at (λ r. r.sphere_rotation_cancel_flag)
  when (eqb sphere_rotation_cancel_flag 0) (do
    sphere_rotation_persistence_flag ← u 1 at (λ r. r.sphere_rotation_persistence_flag)
    sphere_rotation_reserved_zero_6bits ← ignored 6
    yaw_rotation ← i32 turn of (λ r. r.yaw_rotation)
    pitch_rotation ← i32 tilt of (λ r. r.pitch_rotation)
    roll_rotation ← i32 turn of (λ r. r.roll_rotation)
    done
        (record {
          sphere_rotation_cancel_flag = sphere_rotation_cancel_flag;
          sphere_rotation_persistence_flag = sphere_rotation_persistence_flag;
          yaw_rotation = yaw_rotation;
          pitch_rotation = pitch_rotation;
          roll_rotation = roll_rotation;
          degrees = degrees_of yaw_rotation pitch_rotation roll_rotation;
        }))

-- the table under a name that stays shut: callers go by laws
unfoldable pub rotation : Format Rotation Rotation
rotation = table
