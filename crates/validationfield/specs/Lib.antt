pub mod ValidationField
