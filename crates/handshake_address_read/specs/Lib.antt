pub mod DeclaredAddress
