pub mod DeclarationParts
