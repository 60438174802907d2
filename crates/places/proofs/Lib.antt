-- What an entry cites that changes a part of what a reference lends.
pub mod Within
pub mod Frame
pub mod Places
pub mod Store
pub mod Entry
pub mod Finding
pub mod Numbered
pub mod Replacing
pub mod Kinded
pub mod Lending
pub mod Tabling
pub mod Renewing
pub mod Showing
pub mod Picturing
pub mod Opening
pub mod Feeding
pub mod Starting
