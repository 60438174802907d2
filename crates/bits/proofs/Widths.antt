-- The types of a record's numbers, as a generic function is called at them: the type, its laws, and that it is copied.
-- Assumes nothing.
use mathlib.Core.Path.{refl}
use denote.RattleType.{RattleType}
use denote.Param.Laws.{Laws, IsCopy, of_field, of_copyable}
use denote.Param.Shared.{copy_shared}
use denote.Struct.Field.{u8-field, u16-field, u32-field}
use denote.Struct.Laws.{u8-laws, u16-laws, u32-laws, u8-copy, u16-copy, u32-copy}

abbrev pub u8_type : RattleType
u8_type = u8-field.row

pub u8_laws : Laws u8_type
u8_laws = of_field u8-field u8-laws refl (copy_shared u8-field u8-copy)

pub u8_copied : IsCopy u8_type
u8_copied = of_copyable u8-field u8-copy

abbrev pub u16_type : RattleType
u16_type = u16-field.row

pub u16_laws : Laws u16_type
u16_laws = of_field u16-field u16-laws refl (copy_shared u16-field u16-copy)

pub u16_copied : IsCopy u16_type
u16_copied = of_copyable u16-field u16-copy

abbrev pub u32_type : RattleType
u32_type = u32-field.row

pub u32_laws : Laws u32_type
u32_laws = of_field u32-field u32-laws refl (copy_shared u32-field u32-copy)

pub u32_copied : IsCopy u32_type
u32_copied = of_copyable u32-field u32-copy
