-- The kinds of RULES 4: number, record, how a payload of the kind is read as a whole, and what an answer has of its record.
use Rattle.std.specs.Prelude.{ℕ, ◌≡◌, Bool, true, false, ◌||◌, List, [], ◌∷◌, eqb, Option, Some, None, Result, Ok, Err, if◌then◌else◌}
use Rattle.bits.specs.Bits.{bits_of}
use Rattle.format.specs.Format.{Format}
use Rattle.format.specs.Format as format
use Rattle.format.specs.Form.{Form}
use Rattle.format.specs.Whole.{Reading, whole}
use Rattle.kind_frame_packing.specs.declared.FramePacking.{FramePacking}
use Rattle.kind_frame_packing.specs.FramePacking as frame-packing
use Rattle.kind_frame_packing.specs.SetAside.{set_aside}
use Rattle.kind_orientation.specs.declared.Orientation.{Orientation}
use Rattle.kind_orientation.specs.Orientation as orientation
use Rattle.kind_equirectangular.specs.declared.Equirectangular.{Equirectangular}
use Rattle.kind_equirectangular.specs.Equirectangular as equirectangular
use Rattle.kind_rotation.specs.declared.Rotation.{Rotation}
use Rattle.kind_rotation.specs.Rotation as rotation
use Rattle.kind_region_wise.specs.declared.RegionWise.{RegionWise}
use Rattle.kind_region_wise.specs.RegionWise as region-wise
use Rattle.kind_alpha.specs.declared.Alpha.{Alpha}
use Rattle.kind_alpha.specs.Alpha as alpha
use Rattle.kind_depth.specs.declared.Depth.{Depth}
use Rattle.kind_depth.specs.Depth as depth
use Rattle.kind_user_data.specs.declared.registered.Registered.{Registered}
use Rattle.kind_user_data.specs.Registered as registered
use Rattle.kind_user_data.specs.declared.unregistered.Unregistered.{Unregistered}
use Rattle.kind_user_data.specs.Unregistered as unregistered
use Rattle.answers.specs.declared.kind.Kind.{Kind}
use Rattle.answers.specs.declared.kind.Kind.TheVariants as kinds
use Rattle.bits.specs.Refusals.{by_kind}
use Rattle.bits.specs.declared.refusal.Refusal.{Refusal}
use Rattle.answers.specs.declared.Beside.{Beside}
use Rattle.answers.specs.declared.kind.LastingMessage.TheVariants as lasting
use Rattle.answers.specs.declared.kind.PassingMessage.TheVariants as passing
use Rattle.answers.specs.declared.kind.Message.{Message}
use Rattle.answers.specs.declared.kind.Message.TheVariants.{Lasting, Passing}

abbrev pub Record : Kind → Type 0
Record kinds.FramePacking = FramePacking
Record kinds.Orientation = Orientation
Record kinds.Equirectangular = Equirectangular
Record kinds.Rotation = Rotation
Record kinds.RegionWise = RegionWise
Record kinds.Alpha = Alpha
Record kinds.Depth = Depth
Record kinds.Registered = Registered
Record kinds.Unregistered = Unregistered

-- What is listed of a kind: its number; how its payloads are formed; its record of zeros; and, of a record that was taken, the message, the record
-- that stands beside it, and where the rest of the payload begins.
pub record Listing (A : Type 0) : Type 0 where
  pub number : ℕ
  pub form : Form A
  pub zero : A
  pub message : A → Message
  pub beside : A → Beside
  pub rest : A → Option ℕ

-- nothing stands beside the message
abbrev pub nothing : Beside
nothing = record { region_wise = format.zeros region-wise.table; depth = format.zeros depth.table; unregistered = format.zeros unregistered.table }

-- no message of most kinds is set aside
abbrev pub never : {A : Type 0} → A → Bool
never a = false

-- most kinds: a tail can follow, nothing stands beside the message, and the payload has no rest
abbrev pub plainly : {A : Type 0} → ℕ → Format A A → (A → Bool) → A → (A → Message) → Listing A
plainly n table aside zero m =
    record { number = n; form = record { table = table; tailed = true; aside = aside }; zero = zero; message = m; beside = λ a. nothing; rest = λ a. None }

-- kinds 4 and 5 run to the end of the payload and have no tail; only messages of kind 45 are set aside
abbrev pub listing : (k : Kind) → Listing (Record k)
listing kinds.FramePacking = plainly 45 frame-packing.frame_packing set_aside (format.zeros frame-packing.table) (λ a. Lasting (lasting.FramePacking a))
listing kinds.Orientation = plainly 47 orientation.orientation never (format.zeros orientation.table) (λ a. Lasting (lasting.Orientation a))
listing kinds.Equirectangular = plainly 150 equirectangular.equirectangular never (format.zeros equirectangular.table) (λ a. Lasting (lasting.Equirectangular a))
listing kinds.Rotation = plainly 154 rotation.rotation never (format.zeros rotation.table) (λ a. Lasting (lasting.Rotation a))
listing kinds.RegionWise =
    record {
      number = 155;
      form = record { table = region-wise.region_wise; tailed = true; aside = never };
      zero = nothing.region_wise;
      message = λ a. Lasting lasting.RegionWise;
      beside = λ a. record { region_wise = a; depth = nothing.depth; unregistered = nothing.unregistered };
      rest = λ a. None;
    }
listing kinds.Alpha = plainly 165 alpha.alpha never (format.zeros alpha.table) (λ a. Passing (passing.Alpha a))
listing kinds.Depth =
    record {
      number = 177;
      form = record { table = depth.depth; tailed = true; aside = never };
      zero = nothing.depth;
      message = λ a. Passing passing.Depth;
      beside = λ a. record { region_wise = nothing.region_wise; depth = a; unregistered = nothing.unregistered };
      rest = λ a. None;
    }
listing kinds.Registered =
    record {
      number = 4;
      form = record { table = registered.registered; tailed = false; aside = never };
      zero = format.zeros registered.table;
      message = λ a. Passing (passing.Registered a);
      beside = λ a. nothing;
      rest = λ a. Some (registered.head_bytes a);
    }
listing kinds.Unregistered =
    record {
      number = 5;
      form = record { table = unregistered.unregistered; tailed = false; aside = never };
      zero = nothing.unregistered;
      message = λ a. Passing passing.Unregistered;
      beside = λ a. record { region_wise = nothing.region_wise; depth = nothing.depth; unregistered = a };
      rest = λ a. Some 16;
    }

abbrev pub number : Kind → ℕ
number k = (listing k).number

abbrev pub form : (k : Kind) → Form (Record k)
form k = (listing k).form

abbrev pub zeros : (k : Kind) → Record k
zeros k = (listing k).zero

-- the five that a slot holds, by their numbers; the other kinds "are read and not held"
abbrev pub is_held : ℕ → Bool
is_held n = eqb n 45 || (eqb n 47 || (eqb n 150 || (eqb n 154 || eqb n 155)))

abbrev pub Unheld : Kind → Type 0
Unheld k = is_held (number k) ≡ false

-- what reading a payload of kind k comes to
unfoldable pub reading_of : (k : Kind) → List ℕ → Reading (Record k)
reading_of k s = whole (form k) (bits_of s)

abbrev pub listed_kinds : List Kind
listed_kinds =
    kinds.FramePacking
    ∷ kinds.Orientation
    ∷ kinds.Equirectangular
    ∷ kinds.Rotation
    ∷ kinds.RegionWise
    ∷ kinds.Alpha
    ∷ kinds.Depth
    ∷ kinds.Registered
    ∷ kinds.Unregistered
    ∷ []

-- the first of these kinds that has the number n
abbrev pub named_in : List Kind → ℕ → Option Kind
named_in [] n = None
named_in (k ∷ ks) n = if eqb n (number k) then Some k else named_in ks n

-- the kind that a number names, if it names one
unfoldable pub named : ℕ → Option Kind
named n = named_in listed_kinds n

-- and 1 where it names none
abbrev pub kind_by : Option Kind → Result Kind Refusal
kind_by (Some k) = Ok k
kind_by None = Err by_kind
