mod Announced
mod Shared
mod Told
mod Walking
mod FieldsMet
