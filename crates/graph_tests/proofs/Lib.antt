pub mod SameMeaning
