pub mod MessageIdKey
